-- Keepers gathered in rising order, into a list of eight.
-- Assumes nothing.
use Prim.Native.Nat.{ℕ, ◌+◌, ◌-◌, ◌≤◌, ◌<◌}
use mathlib.Core.Path.{◌≡◌, sym, ◌∙◌}
use mathlib.Core.Bool.{Bool, true, false}
use mathlib.Core.List.{List, append-nil}
use native.Mathlib.Numerals.{add-one}
use native.Mathlib.Omega.{arith}
use lib.ListN.{length, take, set, length-set}
use lib.Seq.{take-suc-set, take_at}
use Rattle.lists.specs.Chosen.{chosen, length-chosen}
use Rattle.lists.specs.Count.{count}
use Rattle.lists.specs.From.{from}
use Rattle.lists.specs.Rising.{chosen_next, chosen_split, count_next}
use Rattle.search.specs.Base.{Base}

pub record Gathered (of : ℕ → Bool) (t : ℕ) (who : List ℕ) (found k : ℕ) : Type 0 where
  pub size : length who ≡ 8
  pub so_far : take found who ≡ chosen of (from 1 k)
  pub counted : found ≡ count of (from 1 k)
  pub few : found ≤ t

module _ {of : ℕ → Bool} {t : ℕ} {who : List ℕ} {found k : ℕ} (g : Gathered of t who found k) where
  one_more : t ≤ 7 → of (k + 1) ≡ true → take (found + 1) (set who found (k + 1)) ≡ chosen of (from 1 (k + 1))
  one_more room e = rw (add-one found, take-suc-set who found (k + 1) (omega (arith, g.size, g.few)), g.so_far) (sym (chosen_next of k true e))

  pub gathered_in : t ≤ 7 → (found ≡ t → ⊥) → of (k + 1) ≡ true → Gathered of t (set who found (k + 1)) (found + 1) (k + 1)
  gathered_in room short e = record {
    size = length-set who found (k + 1) ∙ g.size;
    so_far = one_more room e;
    counted = omega (arith, g.counted, count_next of k true e);
    few = omega (arith, g.few);
  }

  pub gathered_out : of (k + 1) ≡ false → Gathered of t who found (k + 1)
  gathered_out e = record {
    size = g.size;
    so_far = g.so_far ∙ sym (chosen_next of k false e ∙ append-nil (chosen of (from 1 k)));
    counted = omega (arith, g.counted, count_next of k false e);
    few = g.few;
  }

  module _ (enough : t + 1 ≤ count of (from 1 16)) where
    -- the one that comes as the last
    pub gathered_all : t ≤ 7 → k < 16 → found ≡ t → of (k + 1) ≡ true → Base t 16 of (take (t + 1) (set who found (k + 1)))
    gathered_all room l last e = record { enough = enough; first = all }
      where
        all : take (t + 1) (set who found (k + 1)) ≡ take (t + 1) (chosen of (from 1 16))
        all =
            let so_many : t + 1 ≡ length (chosen of (from 1 (k + 1))) = omega (arith, g.counted, count_next of k true e, length-chosen of (from 1 (k + 1))) in
            rw (chosen_split of (k + 1) 16 (omega arith), ← last)
            (one_more room e ∙ sym (take_at (chosen of (from 1 (k + 1))) (chosen of (from (1 + (k + 1)) (16 - (k + 1)))) (found + 1) (omega (arith, so_many))))

    -- it comes
    pub gathered_short : k ≡ 16 → ⊥
    gathered_short past = let counted = rw past at g.counted in omega (arith, g.few)
