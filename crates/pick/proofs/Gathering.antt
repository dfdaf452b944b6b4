-- Gathering the ranks of a tray, keeper after keeper.
-- Assumes nothing.
use Prim.Native.Nat.{ℕ, ◌+◌, ◌<◌, ◌≤◌}
use mathlib.Core.Path.{◌≡◌, ap, ◌∙◌}
use mathlib.Core.List.{List}
use native.Mathlib.Omega.{arith}
use lib.ListN.{length, get_or, set, length-set}
use lib.Seq.{get_or-set_same, get_or-set_other}
use borrow.Author.Count.{below_more}
use Rattle.header.specs.declared.told.Told.{Told}
use Rattle.header.specs.Head.{head_of}
use Rattle.format.specs.Reading.{block_words}
use Rattle.tray.specs.Tray.{slot_of}
use Rattle.pick.specs.Ranks.{rank_said, rank_at, RanksOf}

-- the ranks of the first k keepers are gathered
pub record GatheredTo (told : Told) (tray ranks₀ ranks : List ℕ) (k : ℕ) : Type 0 where
  pub size : length ranks ≡ length ranks₀
  pub at : (j : ℕ) → j < k → get_or ranks j 0 ≡ rank_at told tray j

module _ {told : Told} {tray ranks₀ : List ℕ} where
  module _ {ranks : List ℕ} {k : ℕ} (before : GatheredTo told tray ranks₀ ranks k) where
    pub gathered_all : told.order.n ≤ k → RanksOf told tray ranks
    gathered_all past = record { at = λ j l. before.at j (omega arith) }

    pub gathered_next : {slot : List ℕ} {rank : ℕ} → k < told.order.n → told.order.n ≤ length ranks₀ → slot ≡ slot_of tray (k + 1)
        → rank ≡ rank_said told (k + 1) (head_of (block_words slot 0)) → GatheredTo told tray ranks₀ (set ranks k rank) (k + 1)
    unfolding rank_at
    gathered_next {slot} {rank} within room here read = record {
      size = length-set ranks k rank ∙ before.size;
      at =
          below_more (λ j. get_or (set ranks k rank) j 0 ≡ rank_at told tray j) k
          (λ j l. get_or-set_other ranks k j rank 0 (λ e. omega arith) ∙ before.at j l)
          (get_or-set_same ranks k rank 0 (omega (arith, before.size)) ∙ (read ∙ ap (λ s. rank_said told (k + 1) (head_of (block_words s 0))) here));
    }
