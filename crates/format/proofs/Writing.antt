-- Writing a letter, block after block, over zeros.
-- Assumes nothing.
use Prim.Native.Nat.{ℕ, suc, ◌+◌, ◌-◌, ◌*◌, ◌<◌, ◌≤◌, min}
use mathlib.Core.Path.{◌≡◌, ap, ◌∙◌}
use mathlib.Core.List.{List, ◌++◌}
use native.Mathlib.Numerals.{add-one}
use native.Mathlib.Omega.{arith}
use lib.ListN.{length, take, drop, replicate, length-append, length-drop, length-replicate}
use Rattle.lists.specs.Pieces.{pieces, length-pieces}
use Rattle.lists.specs.Zeros.{drop_zeros}
use Rattle.block.specs.Words.{bytes_of}
use Rattle.block.specs.Check.{sealed}
use Rattle.header.specs.declared.head.Head.{Head}
use Rattle.header.specs.Head.{head_words}
use Rattle.format.specs.Letter.{blocks_for, block_bytes, slot_bytes}
use Rattle.format.specs.LetterSizes.{block_shares-part, length-block_bytes}
use Rattle.format.proofs.Counting.{Counted}
use Rattle.format.proofs.Lent.{part_back}

-- of `count` blocks, those before p stand in the slot
pub record WrittenTo (mark from : ℕ) (h : Head) (shares : List ℕ) (count : ℕ) (slot : List ℕ) (p : ℕ) : Type 0 where
  pub blocks : Counted (length shares) count
  pub reached : p ≤ count
  pub size : length slot ≡ 2048
  pub written : slot ≡ pieces (block_bytes mark from h shares) p ++ drop (512 * p) (replicate 2048 0)

module _ (mark from : ℕ) (h : Head) (shares : List ℕ) (count : ℕ) (slot : List ℕ) where
  pub written_none : Counted (length shares) count → (n : ℕ) → n ≡ 2048 → slot ≡ replicate n 0 → WrittenTo mark from h shares count slot 0
  unfolding pieces
  written_none blocks n all clear =
      record { blocks = blocks; reached = omega arith; size = ap length clear ∙ (length-replicate n 0 ∙ all); written = clear ∙ ap (λ k. replicate k 0) all }

  module _ (p : ℕ) (before : WrittenTo mark from h shares count slot p) where
    pub written_all : count ≤ p → length shares ≡ h.length → slot ≡ slot_bytes mark from h shares
    unfolding slot_bytes
    written_all past same =
        let many = ap blocks_for same in
        let last : p ≡ blocks_for h.length = omega arith in
        rw (last, drop_zeros) at before.written

    -- the slot with block p laid over it
    laid : take (512 * p) slot ++ (block_bytes mark from h shares p ++ drop (512 * p + 512 - 512 * p) (drop (512 * p) slot))
        ≡ pieces (block_bytes mark from h shares) (suc p) ++ drop (512 * suc p) (replicate 2048 0)
    unfolding pieces
    laid =
        let whole : 512 * p + 512 - 512 * p ≡ 512 = omega arith in
        let next : 512 * suc p ≡ 512 * p + 512 = omega arith in
        let long : length (pieces (block_bytes mark from h shares) p) ≡ 512 * p = omega (arith, length-pieces 512 (block_bytes mark from h shares) p (λ i within. length-block_bytes mark from h shares i)) in
        rw (whole, next, before.written) (part_back (pieces (block_bytes mark from h shares) p) (replicate 2048 0) (block_bytes mark from h shares p) (512 * p) 512 long)

    module _ (within : p < count) (to : ℕ) (there : to ≡ min (238 * p + 238) (length shares)) (block : List ℕ) where
      abbrev part : List ℕ
      part = take (to - 238 * p) (drop (238 * p) shares)

      block_is : block ≡ bytes_of (sealed (head_words mark from h p ++ (part ++ replicate (238 - length part) 0))) → block ≡ block_bytes mark from h shares p
      unfolding block_bytes
      block_is given = (rw there at given) ∙ rw block_shares-part

      pub written_next : block ≡ bytes_of (sealed (head_words mark from h p ++ (part ++ replicate (238 - length part) 0)))
          → WrittenTo mark from h shares count (take (512 * p) slot ++ (block ++ drop (512 * p + 512 - 512 * p) (drop (512 * p) slot))) (p + 1)
      written_next given =
          let now = rw (← block_is given) at laid in
          let long = length-pieces 512 (block_bytes mark from h shares) (suc p) (λ i within. length-block_bytes mark from h shares i) in
          record {
            blocks = before.blocks;
            reached = omega arith;
            size = ap length now ∙ rw (length-append, length-drop, length-replicate) (omega arith);
            written = rw add-one now;
          }
