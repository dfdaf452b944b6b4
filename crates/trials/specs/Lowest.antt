-- How many sets are tried up to the first that lies within another set.
-- Assumes nothing.
use Rattle.std.specs.Prelude.{ℕ, zero, suc, ◌+◌, Bool, cond}
use mathlib.Core.List.{List, [], ◌∷◌}
use Rattle.std.proofs.Math.ListN.{length}
use Rattle.trials.specs.Sets.{choose}

-- how many sets of k are tried up to the first that lies within: the next number is included if it passes, and where it is skipped, all the sets
-- that have it are passed by
unfoldable pub place : (ℕ → Bool) → List ℕ → ℕ → ℕ
place a [] k = 1
place a (x ∷ xs) zero = 1
place a (x ∷ xs) (suc k) = cond (a x) (place a xs k) (choose (length xs) k + place a xs (suc k))
