-- A list whose numbers all lie below a bound: bytes below 256, field words below q.
-- Assumes nothing.
use Rattle.std.specs.Prelude.{ℕ, zero, suc, ◌<◌, List, [], ◌∷◌, ◌++◌, length, get_or, take, drop}
use Rattle.std.proofs.Common.{suc-le-suc, zero-le, le_of_suc-le-suc, not-suc-le-zero}

abbrev pub Below : ℕ → List ℕ → Type 0
Below q xs = (i : ℕ) → i < length xs → get_or xs i 0 < q

pub below_nil : (q : ℕ) → Below q []
below_nil q i h = absurd (not-suc-le-zero h)

pub below_head : (q x : ℕ) (xs : List ℕ) → Below q (x ∷ xs) → x < q
below_head q x xs b = b 0 (suc-le-suc zero-le)

pub below_tail : (q x : ℕ) (xs : List ℕ) → Below q (x ∷ xs) → Below q xs
below_tail q x xs b i h = b (suc i) (suc-le-suc h)

-- past its end a list reads as 0
pub below_any : (q : ℕ) (xs : List ℕ) → 0 < q → Below q xs → (i : ℕ) → get_or xs i 0 < q
below_any q [] z b i = z
below_any q (x ∷ xs) z b zero = below_head q x xs b
below_any q (x ∷ xs) z b (suc i) = below_any q xs z (below_tail q x xs b) i

pub below_cons : (q x : ℕ) (xs : List ℕ) → x < q → Below q xs → Below q (x ∷ xs)
below_cons q x xs hx b zero h = hx
below_cons q x xs hx b (suc i) h = b i (le_of_suc-le-suc h)

pub below_append : (q : ℕ) (xs ys : List ℕ) → Below q xs → Below q ys → Below q (xs ++ ys)
below_append q [] ys bx by i h = by i h
below_append q (x ∷ xs) ys bx by zero h = below_head q x xs bx
below_append q (x ∷ xs) ys bx by (suc i) h = below_append q xs ys (below_tail q x xs bx) by i (le_of_suc-le-suc h)

pub below_take : (q n : ℕ) (xs : List ℕ) → Below q xs → Below q (take n xs)
below_take q zero xs b i h = absurd (not-suc-le-zero h)
below_take q (suc n) [] b i h = absurd (not-suc-le-zero h)
below_take q (suc n) (x ∷ xs) b zero h = below_head q x xs b
below_take q (suc n) (x ∷ xs) b (suc i) h = below_take q n xs (below_tail q x xs b) i (le_of_suc-le-suc h)

pub below_drop : (q n : ℕ) (xs : List ℕ) → Below q xs → Below q (drop n xs)
below_drop q zero xs b i h = b i h
below_drop q (suc n) [] b i h = absurd (not-suc-le-zero h)
below_drop q (suc n) (x ∷ xs) b i h = below_drop q n xs (below_tail q x xs b) i h
