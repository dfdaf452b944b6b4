-- What a rule gives at 0, 1, .. k - 1, as a list.
-- Assumes nothing.
use Rattle.std.specs.Prelude.{ℕ, zero, suc, ◌+◌, ◌<◌, ◌≡◌, refl, List, [], ◌∷◌, ◌++◌, length, get_or, set, drop}
use Rattle.std.proofs.Common.{sym, ◌∙◌, append_assoc, ⊎_elim, eq-or-lt_of_le, le_of_suc-le-suc, not-suc-le-zero, add-one, arith, length-append, ext_get_or, drop-cons}
use Rattle.std.proofs.Math.ListN.{get_or-append}
use Rattle.std.proofs.lemmas.List.{get_or_at, set_at}
use Rattle.lists.specs.Below.{Below}
use Rattle.lists.specs.Grown.{grown_same}

unfoldable pub listed : (ℕ → ℕ) → ℕ → List ℕ
listed f zero = []
listed f (suc k) = listed f k ++ (f k ∷ [])

pub length-listed : (f : ℕ → ℕ) (k : ℕ) → length (listed f k) ≡ k
unfolding listed
length-listed f zero = refl
length-listed f (suc k) = rw length-append (omega (arith, length-listed f k))

pub get_d_listed : (f : ℕ → ℕ) (k i : ℕ) → i < k → get_or (listed f k) i 0 ≡ f i
unfolding listed
get_d_listed f zero i h = absurd (not-suc-le-zero h)
get_d_listed f (suc k) i h =
    ⊎_elim (λ e. rw e (get_or_at (listed f k) (f k) [] 0 k (length-listed f k)))
    (λ l. get_or-append (listed f k) (f k ∷ []) 0 i (omega (arith, length-listed f k)) ∙ get_d_listed f k i l)
    (eq-or-lt_of_le (le_of_suc-le-suc h))

pub listed_is : (f : ℕ → ℕ) (k : ℕ) (xs : List ℕ) → length xs ≡ k → ((i : ℕ) → i < k → get_or xs i 0 ≡ f i) → xs ≡ listed f k
listed_is f k xs size each =
    ext_get_or 0 xs (listed f k) (size ∙ sym (length-listed f k)) (λ i h. each i (omega arith) ∙ sym (get_d_listed f k i (omega arith)))

pub listed_same : (f g : ℕ → ℕ) (k : ℕ) → ((i : ℕ) → i < k → f i ≡ g i) → listed f k ≡ listed g k
unfolding listed
listed_same = grown_same listed (λ xs x. xs ++ (x ∷ [])) (λ f g. refl) (λ f k. refl)

-- a row filled from the front, one more by a store
pub set-listed : (f : ℕ → ℕ) (i : ℕ) (row : List ℕ) → i < length row
    → set (listed f i ++ drop i row) i (f i) ≡ listed f (i + 1) ++ drop (i + 1) row
unfolding listed
set-listed f i row h =
    rw (add-one, append_assoc, drop-cons row i 0)
    (set_at (listed f i) (get_or row i 0) (drop (suc i) row) (f i) i (length-listed f i))

pub below_listed : (q : ℕ) (f : ℕ → ℕ) (k : ℕ) → ((i : ℕ) → i < k → f i < q) → Below q (listed f k)
below_listed q f k h i l = let within : i < k = omega (arith, length-listed f k) in rw (get_d_listed f k i within) (h i within)
