-- The sets of so many numbers of a list, and how many there are.
-- Assumes nothing.
use Rattle.std.specs.Prelude.{ℕ, zero, suc, ◌+◌, ◌≡◌, refl, List, [], ◌∷◌, ◌++◌, map, length}
use Rattle.std.proofs.Common.{arith, length-append}
use Rattle.std.proofs.lemmas.List.{length-map}

-- "in dictionary order of rising keeper numbers": of a rising list, the sets that have its first number stand before those that have not
unfoldable pub sets : List ℕ → ℕ → List (List ℕ)
sets [] zero = [] ∷ []
sets [] (suc k) = []
sets (x ∷ xs) zero = [] ∷ []
sets (x ∷ xs) (suc k) = map (λ z. x ∷ z) (sets xs k) ++ sets xs (suc k)

-- "m choose t+1", by Pascal's rule
unfoldable pub choose : ℕ → ℕ → ℕ
choose zero zero = 1
choose zero (suc k) = 0
choose (suc m) zero = 1
choose (suc m) (suc k) = choose m k + choose m (suc k)

-- how many sets there are
pub length-sets : (xs : List ℕ) (k : ℕ) → length (sets xs k) ≡ choose (length xs) k
unfolding sets choose
length-sets [] zero = refl
length-sets [] (suc k) = refl
length-sets (x ∷ xs) zero = refl
length-sets (x ∷ xs) (suc k) = rw (length-append, length-map (sets xs k) (λ z. x ∷ z)) (omega (arith, length-sets xs k, length-sets xs (suc k)))
