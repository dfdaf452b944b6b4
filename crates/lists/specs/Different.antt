-- Pairwise different numbers: the head does not stand in the tail, and so on down.
-- Assumes nothing.
use Rattle.std.specs.Prelude.{ℕ, zero, suc, List, [], ◌∷◌, take}
use Rattle.lists.specs.Member.{In, in_take}

abbrev pub Different : List ℕ → Type 0
Different [] = Unit {0}
Different (x ∷ xs) = (In x xs → ⊥) × Different xs

pub different_take : (n : ℕ) (xs : List ℕ) → Different xs → Different (take n xs)
different_take zero xs d = tt
different_take (suc n) [] d = tt
different_take (suc n) (x ∷ xs) d = ((λ m. d.0 (in_take n x xs m)), different_take n xs d.1)
