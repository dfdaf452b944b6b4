-- A test that passes at every entry of a list, each with its place, passes at each index.
-- So the rule of a table is one test that computes over the whole of it.
-- Assumes nothing.
use Rattle.std.specs.Prelude.{ℕ, zero, suc, ◌+◌, ◌<◌, ◌≡◌, Bool, true, ◌&&◌, List, [], ◌∷◌, length, get_or}
use Rattle.std.proofs.Math.Bool.{and-eq-true_iff}
use Rattle.std.proofs.Common.{zero-add, add-zero, add-suc, suc-add, le_of_suc-le-suc, not-suc-le-zero}

module _ (test : ℕ → ℕ → Bool) where
  -- the test takes a place and the entry there; the first entry's place is from
  abbrev pub every : ℕ → List ℕ → Bool
  every from [] = true
  every from (x ∷ xs) = test from x && every (suc from) xs

  first_and_rest : (from x : ℕ) (xs : List ℕ) → every from (x ∷ xs) ≡ true → (test from x ≡ true) × (every (suc from) xs ≡ true)
  first_and_rest from x xs = (and-eq-true_iff (test from x) (every (suc from) xs)).0

  every-from : (from : ℕ) (xs : List ℕ) → every from xs ≡ true → (k : ℕ) → k < length xs → test (from + k) (get_or xs k 0) ≡ true
  every-from from [] passed k h = absurd (not-suc-le-zero h)
  every-from from (x ∷ xs) passed zero h = rw add-zero (first_and_rest from x xs passed).0
  every-from from (x ∷ xs) passed (suc k) h =
      rw (add-suc, ← suc-add from k)
      (every-from (suc from) xs (first_and_rest from x xs passed).1 k (le_of_suc-le-suc h))

  pub every-at : (xs : List ℕ) → every 0 xs ≡ true → (k : ℕ) → k < length xs → test k (get_or xs k 0) ≡ true
  every-at xs passed k h = rw zero-add at (every-from 0 xs passed k h)
