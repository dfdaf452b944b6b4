-- No word is likelier than another: each of the 257 has just 255 draws of the 65535 that are taken.
-- Assumes nothing.
use Rattle.std.specs.Prelude.{ℕ, ◌+◌, ◌*◌, ◌/◌, ◌%◌, ◌<◌, ◌≡◌, true, List, ltb, length, set, Some}
use Rattle.std.proofs.Common.{not-suc-le-zero, arith, length-set, get_or-set_same, get_or-set_other, below_more, lt-ltb, ltb-true}
use Rattle.std.proofs.lemmas.Option.{cond_some}
use Rattle.block.specs.AtMostLaws.{below_at_most}
use Rattle.block.specs.Check.{all_at_most}
use Rattle.chance.specs.Draw.{drawn, Begun}

-- the draws 257 k + w, for k = 0 .. 254, are taken and give w
pub word-drawn : (w k : ℕ) → w < 257 → k < 255 → drawn (257 * k + w) ≡ Some w
word-drawn w k hw hk =
    let rest : (257 * k + w) % 257 ≡ w = omega arith in
    rw (lt-ltb (257 * k + w) 65535 (omega arith), rest)

-- and no other draw is taken that gives it
pub draw_taken : (d w : ℕ) → drawn d ≡ Some w → (d ≡ 257 * (d / 257) + w) × (d / 257 < 255) × (w < 257)
draw_taken d w e =
    let taken = cond_some (ltb d 65535) (d % 257) w e in
    let small = ltb-true d 65535 taken.0 in
    (omega (arith, taken.1), omega arith, omega (arith, taken.1))

pub drawn_below : (d w : ℕ) → drawn d ≡ Some w → w < 257
drawn_below d w e = (draw_taken d w e).2

-- words put one after the other: none, one more, and all
pub begun_none : (words : List ℕ) → Begun words 0
begun_none words = record { within = omega arith; below = λ k h. absurd (not-suc-le-zero h) }

pub begun_more : {words : List ℕ} {count : ℕ} (w : ℕ) → Begun words count → count < length words → w < 257 → Begun (set words count w) (count + 1)
begun_more {words} {count} w h l small =
    record {
      within = rw length-set (omega arith);
      below = below_more _ count (λ k j. rw (get_or-set_other words count k w 0 (λ e. omega arith)) (h.below k j)) (rw (get_or-set_same words count w 0 l) small);
    }

pub begun_all : {words : List ℕ} {count : ℕ} → Begun words count → count ≡ length words → all_at_most 256 words ≡ true
begun_all {words} h e = below_at_most 256 words (λ k j. h.below k (omega arith))
