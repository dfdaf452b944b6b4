-- A test that passes at every number below a bound.
-- Assumes nothing.
use Prim.Native.Nat.{ℕ, zero, suc, ◌+◌, ◌<◌, ◌≤◌}
use Rattle.std.specs.Prelude.{◌≡◌, Bool, true, false, ◌&&◌}
use Rattle.std.proofs.Math.Path.{refl, subst⁻¹}
use Rattle.std.proofs.Common.{ap₂, eq-or-lt_of_le, le_of_suc-le-suc, not-suc-le-zero, arith}
use Rattle.std.proofs.Math.Bool.{and-eq-true_iff, and-false}
use Rattle.std.proofs.Math.Logic.{⊎_elim}
use Rattle.std.proofs.Math.Numerals.{add-one}
use Rattle.lists.specs.AllTo.{all_to}

module _ (test : ℕ → Bool) where
  pub all_to_holds : (k : ℕ) → ((i : ℕ) → i < k → test i ≡ true) → all_to test k ≡ true
  unfolding all_to
  all_to_holds zero h = refl
  all_to_holds (suc k) h = (and-eq-true_iff (all_to test k) (test k)).1 (all_to_holds k (λ i l. h i (omega arith)), h k (omega arith))

  pub all_to-at : (k : ℕ) → all_to test k ≡ true → (i : ℕ) → i < k → test i ≡ true
  unfolding all_to
  all_to-at zero e i l = absurd (not-suc-le-zero l)
  all_to-at (suc k) e i l =
      let p = (and-eq-true_iff (all_to test k) (test k)).0 e in
      ⊎_elim (λ s. subst⁻¹ (λ (j : ℕ). test j ≡ true) s p.1) (λ g. all_to-at k p.0 i g) (eq-or-lt_of_le (le_of_suc-le-suc l))

  pub all_to_stops : (k i : ℕ) → i < k → test i ≡ false → all_to test k ≡ false
  unfolding all_to
  all_to_stops zero i l e = absurd (not-suc-le-zero l)
  all_to_stops (suc k) i l e =
      ⊎_elim (λ s. rw (rw s at e) (and-false (all_to test k))) (λ g. rw (all_to_stops k i g e)) (eq-or-lt_of_le (le_of_suc-le-suc l))

  -- of k numbers, the test has passed at those before i
  pub record PassedTo (k i : ℕ) : Type 0 where
    pub reached : i ≤ k
    pub so_far : all_to test i ≡ true

  module _ {k : ℕ} where
    pub passed_none : PassedTo k 0
    unfolding all_to
    passed_none = record { reached = omega arith; so_far = refl }

    pub passed_next : {i : ℕ} → PassedTo k i → i < k → test i ≡ true → PassedTo k (i + 1)
    unfolding all_to
    passed_next {i} before l e =
        record { reached = omega arith; so_far = rw add-one ((and-eq-true_iff (all_to test i) (test i)).1 (before.so_far, e)) }

    pub passed_all : {i : ℕ} → PassedTo k i → k ≤ i → all_to test k ≡ true
    passed_all {i} before l = let all : k ≡ i = omega arith in rw all before.so_far

pub all_to_same : (f g : ℕ → Bool) (k : ℕ) → ((i : ℕ) → i < k → f i ≡ g i) → all_to f k ≡ all_to g k
unfolding all_to
all_to_same f g zero h = refl
all_to_same f g (suc k) h = ap₂ ◌&&◌ (all_to_same f g k (λ i l. h i (omega arith))) (h k (omega arith))
