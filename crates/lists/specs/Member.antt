-- That a number stands in a list: it is the head, or it stands in the tail.
-- Assumes nothing.
use Rattle.std.specs.Prelude.{ℕ, zero, suc, ◌<◌, ◌≡◌, refl, ◌⊎◌, List, [], ◌∷◌, length, get_or, take}
use Rattle.std.proofs.Common.{suc-le-suc, zero-le, subst, sym, inl, inr, le_of_suc-le-suc, not-suc-le-zero}
use Rattle.lists.specs.Below.{Below}

abbrev pub In : ℕ → List ℕ → Type 0
In x [] = ⊥
In x (y ∷ ys) = (x ≡ y) ⊎ In x ys

pub in_get_d : (xs : List ℕ) (i : ℕ) → i < length xs → In (get_or xs i 0) xs
in_get_d [] i h = absurd (not-suc-le-zero h)
in_get_d (x ∷ xs) zero h = inl refl
in_get_d (x ∷ xs) (suc i) h = inr (in_get_d xs i (le_of_suc-le-suc h))

-- what holds of every number by its place holds of every number that stands in the list
pub in_every : (P : ℕ → Type 0) (xs : List ℕ) → ((i : ℕ) → i < length xs → P (get_or xs i 0)) → (x : ℕ) → In x xs → P x
in_every P [] h x m = absurd m
in_every P (y ∷ ys) h x (inl e) = subst P (sym e) (h 0 (suc-le-suc zero-le))
in_every P (y ∷ ys) h x (inr m) = in_every P ys (λ i k. h (suc i) (suc-le-suc k)) x m

pub below_in : (q : ℕ) (xs : List ℕ) → Below q xs → (x : ℕ) → In x xs → x < q
below_in q xs b = in_every (λ (x : ℕ). x < q) xs b

pub in_take : (n x : ℕ) (xs : List ℕ) → In x (take n xs) → In x xs
in_take zero x xs m = absurd m
in_take (suc n) x [] m = absurd m
in_take (suc n) x (y ∷ ys) (inl e) = inl e
in_take (suc n) x (y ∷ ys) (inr m) = inr (in_take n x ys m)
