-- Filling a row with the share words of a letter, block after block.
-- Assumes nothing.
use Prim.Native.Nat.{ℕ, suc, ◌+◌, ◌-◌, ◌*◌, ◌<◌, ◌≤◌, min}
use mathlib.Core.Path.{◌≡◌, refl, ap, ◌∙◌}
use mathlib.Core.List.{List, ◌++◌, append-nil}
use native.Mathlib.Numerals.{add-one}
use native.Mathlib.Omega.{arith}
use lib.ListN.{length, take, drop, length-append, length-take, length-drop}
use lib.Seq.{take_all, drop-length}
use Rattle.format.specs.Letter.{blocks_for}
use Rattle.format.specs.Reading.{block_words, all_shares, shares_of}
use Rattle.format.specs.SlotWords.{length-all_shares, take-all_shares}
use Rattle.format.proofs.Counting.{Counted}
use Rattle.format.proofs.Lent.{part_back}

-- of `count` blocks, those before p have given their share words to the row
pub record FilledTo (slot row₀ : List ℕ) (count : ℕ) (row : List ℕ) (p : ℕ) : Type 0 where
  pub blocks : Counted (length row₀) count
  pub reached : p ≤ count
  pub size : length row ≡ length row₀
  pub filled : row ≡ take (min (238 * p) (length row₀)) (all_shares slot p) ++ drop (min (238 * p) (length row₀)) row₀

module _ (slot row₀ : List ℕ) (count : ℕ) where
  pub filled_none : Counted (length row₀) count → FilledTo slot row₀ count row₀ 0
  filled_none blocks =
      let none : min (238 * 0) (length row₀) ≡ 0 = omega arith in
      record { blocks = blocks; reached = omega arith; size = refl; filled = rw none }

  module _ (row : List ℕ) (p : ℕ) (before : FilledTo slot row₀ count row p) where
    pub filled_all : count ≤ p → row ≡ shares_of slot (length row₀)
    filled_all past =
        let last : p ≡ blocks_for (length row₀) = omega arith in
        let all : min (238 * p) (length row₀) ≡ length row₀ = omega arith in
        rw (all, drop-length, append-nil, last) at before.filled

    module _ (size : length slot ≡ 2048) (within : p < count) (to : ℕ) (there : to ≡ min (238 * p + 238) (length row₀)) where
      -- the row with the share words of block p laid over it
      laid : take (238 * p) row ++ (take (to - 238 * p) (drop 16 (block_words slot p)) ++ drop (to - 238 * p) (drop (238 * p) row))
          ≡ take to (all_shares slot (suc p)) ++ drop to row₀
      laid =
          let long : length (all_shares slot p) ≡ 238 * p = omega (arith, length-all_shares slot size p (omega arith)) in
          let begun : min (238 * p) (length row₀) ≡ 238 * p = omega arith in
          let so_far : row ≡ all_shares slot p ++ drop (238 * p) row₀ = rw (begun, take_all (238 * p) (all_shares slot p) (omega arith)) at before.filled in
          let next : 238 * p + (to - 238 * p) ≡ to = omega arith in
          rw (take-all_shares slot size p to (omega arith) (omega arith) (omega arith), so_far)
          (rw next at (part_back (all_shares slot p) row₀ (take (to - 238 * p) (drop 16 (block_words slot p))) (238 * p) (to - 238 * p) long))

      pub filled_next : (words : List ℕ) → words ≡ take (length (take (to - 238 * p) (drop (238 * p) row))) (drop 16 (block_words slot p))
          → FilledTo slot row₀ count (take (238 * p) row ++ (words ++ drop (to - 238 * p) (drop (238 * p) row))) (p + 1)
      filled_next words given =
          let part : length (take (to - 238 * p) (drop (238 * p) row)) ≡ to - 238 * p = rw (length-take, length-drop) (omega arith) in
          let now = rw (← (rw part at given)) at laid in
          let next : to ≡ min (238 * suc p) (length row₀) = omega arith in
          let more = length-all_shares slot size (suc p) (omega arith) in
          record {
            blocks = before.blocks;
            reached = omega arith;
            size = ap length now ∙ rw (length-append, length-take, length-drop) (omega arith);
            filled = rw (add-one, ← next) now;
          }
