-- Keepers past k, none of whom passes: a set of 1..n is then the set of 1..k, and so are the count and those chosen.
-- Assumes nothing.
use Prim.Native.Nat.{ℕ, zero, suc, ◌+◌, ◌-◌, ◌≤◌, ◌<◌}
use Rattle.std.specs.Prelude.{◌≡◌, Bool, false}
use Rattle.std.proofs.Common.{sym, ◌∙◌, append-nil, eq-or-lt_of_le, le_of_suc-le-suc}
use Rattle.std.proofs.Math.Path.{ap}
use Rattle.std.proofs.Math.Logic.{⊎_elim}
use native.Mathlib.Omega.{arith}
use Rattle.std.specs.Int.Count.{ones}
use Rattle.lists.specs.Chosen.{chosen, chosen_none}
use Rattle.lists.specs.Count.{count}
use Rattle.lists.specs.From.{from, from_in}
use Rattle.lists.specs.KeeperSet.{keeper_set}
use Rattle.lists.specs.KeeperSetLaws.{ones-keeper_set}
use Rattle.lists.specs.Rising.{chosen_split}

module _ (test : ℕ → Bool) (k : ℕ) (none : (x : ℕ) → k < x → test x ≡ false) where
  pub keeper_set-past : (n : ℕ) → k ≤ n → keeper_set test n ≡ keeper_set test k
  unfolding keeper_set
  keeper_set-past zero h = let e : zero ≡ k = omega arith in ap (keeper_set test) e
  keeper_set-past (suc n) h =
      ⊎_elim (λ e. ap (keeper_set test) (sym e)) (λ l. rw (none (suc n) l) (omega (arith, keeper_set-past n (le_of_suc-le-suc l)))) (eq-or-lt_of_le h)

  pub count_past : (n : ℕ) → k ≤ n → count test (from 1 n) ≡ count test (from 1 k)
  count_past n h = sym (ones-keeper_set test n) ∙ ap ones (keeper_set-past n h) ∙ ones-keeper_set test k

  pub chosen-past : (n : ℕ) → k ≤ n → chosen test (from 1 n) ≡ chosen test (from 1 k)
  chosen-past n h =
      chosen_split test k n h
      ∙ rw (chosen_none test (from (1 + k) (n - k)) (λ x m. let b = from_in (1 + k) (n - k) x m in none x (omega arith)), append-nil)
