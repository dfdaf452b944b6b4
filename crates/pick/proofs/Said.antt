-- What the head of a slot says: of a usable letter its rank, and never a rank that no letter could have.
-- Assumes nothing.
use Prim.Native.Nat.{ℕ, ◌+◌, ◌≤◌}
use mathlib.Core.Path.{◌≡◌, refl, ap}
use mathlib.Core.Bool.{Bool, true, false, cond}
use mathlib.Core.List.{List}
use native.Mathlib.Omega.{arith}
use Rattle.header.specs.declared.told.Told.{Told}
use Rattle.header.specs.declared.head.Head.{Head}
use Rattle.header.specs.Head.{head_of, lawful_head, same_head}
use Rattle.header.specs.HeadLaws.{lawful_head_facts, same_head_equal, equal_same_head}
use Rattle.header.specs.Passing.{and_left, and_right}
use Rattle.header.specs.TermsLaws.{TermsFacts}
use Rattle.format.specs.Reading.{block_words}
use Rattle.format.specs.ReadingBounds.{good_lawful, good_said}
use Rattle.tray.specs.Tray.{head_for, slot_of, usable}
use Rattle.tray.proofs.UsableLaws.{usable_reads}
use Rattle.pick.specs.Ranks.{rank_of, stamp_in, length_in, may_have, rank_at}

-- a lawful stamp and length come back from their rank
pub record Parts (rank stamp l : ℕ) : Type 0 where
  pub stamp_in_lem : stamp_in rank ≡ stamp
  pub length_in_lem : length_in rank ≡ l

pub parts_of : (stamp l : ℕ) → l ≤ 952 → Parts (rank_of stamp l) stamp l
parts_of stamp l short = record { stamp_in_lem = omega arith; length_in_lem = omega arith }

-- of a head that a letter may have
pub may_facts : (told : Told) (x : ℕ) (h : Head) → may_have told x h ≡ true → TermsFacts told h.stamp h.length
unfolding may_have
may_facts told x h e =
    let asked = head_for told h.stamp h.length x in
    let facts = (lawful_head_facts h (and_left (lawful_head h) (same_head h asked) e)).of_terms in
    rw (ap (λ (g : Head). g.told) (same_head_equal h asked (and_right (lawful_head h) (same_head h asked) e))) at facts

said_terms : (told : Told) (x : ℕ) (h : Head) (right : Bool) → may_have told x h ≡ right → 1 ≤ cond right (rank_of h.stamp h.length) 0
    → let rank = cond right (rank_of h.stamp h.length) 0 in TermsFacts told (stamp_in rank) (length_in rank)
said_terms told x h false e some = absurd (omega arith)
said_terms told x h true e some =
    let facts = may_facts told x h e in
    let parts = parts_of h.stamp h.length facts.length_most in
    rw (parts.stamp_in_lem, parts.length_in_lem) facts

module _ (told : Told) (tray : List ℕ) (k : ℕ) where
  pub usable_rank : (stamp l : ℕ) → usable told stamp l tray (k + 1) ≡ true → rank_at told tray k ≡ rank_of stamp l
  unfolding rank_at may_have
  usable_rank stamp l u =
      let slot = slot_of tray (k + 1) in
      let h = head_for told stamp l (k + 1) in
      let reads = usable_reads told stamp l tray (k + 1) u in
      rw (good_said 81 0 slot h reads, good_lawful slot h reads, equal_same_head h h refl)

  -- a rank is of a lawful stamp and length
  pub rank_terms : 1 ≤ rank_at told tray k → TermsFacts told (stamp_in (rank_at told tray k)) (length_in (rank_at told tray k))
  unfolding rank_at
  rank_terms some = said_terms told (k + 1) (head_of (block_words (slot_of tray (k + 1)) 0)) _ refl some
