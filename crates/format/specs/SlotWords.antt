-- The words of a slot: those of each block, the share words of its first blocks, and what stands past them.
-- Assumes nothing.
use Rattle.std.specs.Prelude.{ℕ, zero, suc, ◌+◌, ◌-◌, ◌*◌, ◌<◌, ◌≤◌, ◌≡◌, refl, ◌&&◌, List, [], ◌∷◌, ◌++◌, leb, drop}
use Rattle.std.proofs.Common.{sym, ◌∙◌, add_assoc, length-take, length-drop}
use Rattle.std.proofs.Math.Path.{ap}
use Rattle.std.proofs.Math.Bool.{and_assoc}
use native.Mathlib.Omega.{arith}
use Rattle.std.proofs.Math.ListN.{length, take}
use Rattle.std.proofs.Math.Seq.{take-append-add, drop-append-add, drop-drop, take-take}
use Rattle.std.proofs.lemmas.Bool.{lt-leb}
use Rattle.lists.specs.Parts.{drop-take}
use Rattle.lists.specs.Pieces.{pieces, length-pieces}
use Rattle.block.specs.Words.{words_of}
use Rattle.block.specs.WordParts.{length-words, words_take, words-drop}
use Rattle.block.specs.Check.{all_at_most}
use Rattle.format.specs.Letter.{blocks_for}
use Rattle.format.specs.LetterSizes.{blocks_facts}
use Rattle.format.specs.Reading.{block_words, all_shares}

block_words-part : (slot : List ℕ) (p : ℕ) → block_words slot p ≡ take 256 (drop (256 * p) (words_of slot))
block_words-part slot p =
    let doubled : 512 * p ≡ 2 * (256 * p) = omega arith in
    rw doubled (words_take 256 (drop (2 * (256 * p)) slot) ∙ rw words-drop)

high_and_low : (high low : ℕ) → leb (high * 256 + low) 0 ≡ (leb high 0 && leb low 0)
high_and_low zero zero = refl
high_and_low zero (suc low) = rw (lt-leb (0 * 256 + suc low) 0 (omega arith), lt-leb (suc low) 0 (omega arith))
high_and_low (suc high) low = rw (lt-leb (suc high * 256 + low) 0 (omega arith), lt-leb (suc high) 0 (omega arith))

zero-words : (n : ℕ) (bs : List ℕ) → length bs ≡ 2 * n → all_at_most 0 (words_of bs) ≡ all_at_most 0 bs
unfolding all_at_most words_of
zero-words n [] size = refl
zero-words n (b ∷ []) size = absurd (omega arith)
zero-words n (high ∷ low ∷ bs) size = rw (high_and_low high low, zero-words (n - 1) bs (omega arith)) (and_assoc (leb high 0) (leb low 0) (all_at_most 0 bs))

-- the share words of block p, the zeros past L with them
abbrev pub shares_at : List ℕ → ℕ → List ℕ
shares_at slot p = take 238 (drop 16 (block_words slot p))

module _ (slot : List ℕ) (size : length slot ≡ 2048) where
  pub length-block_words : (p : ℕ) → p < 4 → length (block_words slot p) ≡ 256
  length-block_words p h = rw (length-words, length-take, length-drop) (omega arith)

  pub length-shares_at : (p : ℕ) → p < 4 → length (shares_at slot p) ≡ 238
  length-shares_at p h = rw (length-take, length-drop, length-block_words p h)

  pub length-all_shares : (k : ℕ) → k ≤ 4 → length (all_shares slot k) ≡ k * 238
  unfolding all_shares
  length-all_shares k h = length-pieces 238 (shares_at slot) k (λ p l. length-shares_at p (omega arith))

  -- the first l share words, where they end in block p
  pub take-all_shares : (p l : ℕ) → p < 4 → 238 * p ≤ l → l ≤ 238 * p + 238
      → take l (all_shares slot (suc p)) ≡ all_shares slot p ++ take (l - 238 * p) (drop 16 (block_words slot p))
  unfolding all_shares pieces
  take-all_shares p l h least most =
      let whole : l ≡ length (all_shares slot p) + (l - 238 * p) = omega (arith, length-all_shares p (omega arith)) in
      let room : l - 238 * p ≤ 238 = omega arith in
      ap (λ m. take m (all_shares slot (suc p))) whole
      ∙ (take-append-add (all_shares slot p) (shares_at slot p) (l - 238 * p)
      ∙ rw take-take)

  shares-past-at : (last rest : ℕ) → last < 4
      → drop (last * 238 + rest) (all_shares slot (suc last)) ≡ take (254 - (16 + rest)) (drop (256 * last + 16 + rest) (words_of slot))
  unfolding all_shares pieces
  shares-past-at last rest h =
      let room : 238 - rest ≤ 256 - (16 + rest) = omega arith in
      let same : 238 - rest ≡ 254 - (16 + rest) = omega arith in
      rw (← length-all_shares last (omega arith))
      (drop-append-add (all_shares slot last) (shares_at slot last) rest
      ∙ rw (block_words-part, drop-take rest 238, drop-drop, drop-take, take-take, drop-drop, same, add_assoc))

  -- the share words past l, as words of the slot
  pub shares-past : (l : ℕ) → 1 ≤ l → l ≤ 952
      → let last = blocks_for l - 1 in
      drop l (all_shares slot (blocks_for l)) ≡ take (254 - (16 + (l - 238 * last))) (drop (256 * last + 16 + (l - 238 * last)) (words_of slot))
  shares-past l least most =
      let facts = blocks_facts l least most in
      let last = blocks_for l - 1 in
      let all : blocks_for l ≡ suc last = omega arith in
      let whole : l ≡ last * 238 + (l - 238 * last) = omega arith in
      ap (λ k. drop l (all_shares slot k)) all
      ∙ (ap (λ m. drop m (all_shares slot (suc last))) whole
      ∙ shares-past-at last (l - 238 * last) (omega arith))

  -- the bytes past k blocks are zeros where the words are
  pub zeros_past : (k : ℕ) → all_at_most 0 (drop (512 * k) slot) ≡ all_at_most 0 (drop (256 * k) (words_of slot))
  zeros_past k =
      let doubled : 512 * k ≡ 2 * (256 * k) = omega arith in
      sym (rw doubled (rw (← words-drop) (zero-words (1024 - 256 * k) (drop (2 * (256 * k)) slot) (rw length-drop (omega arith)))))
