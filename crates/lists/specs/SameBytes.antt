-- Whether two lists are the same, as a test.
-- Assumes nothing.
use Rattle.std.specs.Prelude.{ℕ, ◌<◌, ◌≡◌, refl, Bool, true, false, ◌&&◌, List, [], ◌∷◌, eqb, length, get_or}
use Rattle.std.proofs.Common.{sym, ap₂, ext_get_or, eqb-true, eq-eqb}
use Rattle.std.proofs.lemmas.Bool.{false≢true}
use Rattle.std.proofs.Math.Bool.{and-eq-true_iff}

unfoldable pub same_bytes : List ℕ → List ℕ → Bool
same_bytes [] [] = true
same_bytes [] (y ∷ ys) = false
same_bytes (x ∷ xs) [] = false
same_bytes (x ∷ xs) (y ∷ ys) = eqb x y && same_bytes xs ys

pub same_bytes_equal : (xs ys : List ℕ) → same_bytes xs ys ≡ true → xs ≡ ys
unfolding same_bytes
same_bytes_equal [] [] e = refl
same_bytes_equal [] (y ∷ ys) e = absurd (false≢true e)
same_bytes_equal (x ∷ xs) [] e = absurd (false≢true e)
same_bytes_equal (x ∷ xs) (y ∷ ys) e =
    let p = (and-eq-true_iff (eqb x y) (same_bytes xs ys)).0 e in
    ap₂ {C = List ℕ} (λ z zs. z ∷ zs) (eqb-true x y p.0) (same_bytes_equal xs ys p.1)

pub same_bytes_self : (xs : List ℕ) → same_bytes xs xs ≡ true
unfolding same_bytes
same_bytes_self [] = refl
same_bytes_self (x ∷ xs) = rw (eq-eqb x x refl) (same_bytes_self xs)

pub equal_same_bytes : (xs ys : List ℕ) → xs ≡ ys → same_bytes xs ys ≡ true
equal_same_bytes xs ys e = rw e (same_bytes_self ys)

-- lists that differ are not the same, and lists of one length that agree at each place are
pub apart_not_same : (xs ys : List ℕ) → (xs ≡ ys → ⊥) → false ≡ same_bytes xs ys
apart_not_same xs ys apart = step (same_bytes xs ys) (same_bytes_equal xs ys)
  where
    step : (same : Bool) → (same ≡ true → xs ≡ ys) → false ≡ same
    step true equal = absurd (apart (equal refl))
    step false equal = refl

pub alike_same : (xs ys : List ℕ) → length xs ≡ length ys → ((k : ℕ) → k < length xs → get_or xs k 0 ≡ get_or ys k 0) → true ≡ same_bytes xs ys
alike_same xs ys size alike = sym (equal_same_bytes xs ys (ext_get_or 0 xs ys size alike))
