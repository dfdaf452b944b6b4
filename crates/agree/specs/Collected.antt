-- A list of one polynomial for each word, from one at each.
-- Assumes nothing.
use Rattle.std.specs.Prelude.{ℕ, zero, suc, ◌<◌, ◌≡◌, refl, List, [], ◌∷◌, ◌++◌, ◌⊎◌, length, get_or}
use Rattle.std.proofs.Math.Path.{subst⁻¹}
use Rattle.std.proofs.Common.{inl, inr, eq-or-lt_of_le, le_of_suc-le-suc, not-suc-le-zero, arith, length-append}
use Rattle.std.proofs.Math.ListN.{get_or-append}
use Rattle.std.proofs.lemmas.List.{get_or_at}

pub record Collected (P : ℕ → List ℕ → Type 0) (k : ℕ) : Type 0 where
  pub list : List (List ℕ)
  pub size : length list ≡ k
  pub each : (j : ℕ) → j < k → P j (get_or list j [])

one_more : (P : ℕ → List ℕ → Type 0) (k : ℕ) → Collected P k → (p : List ℕ) → P k p → Collected P (suc k)
one_more P k c p h = record { list = c.list ++ (p ∷ []); size = rw length-append (omega (arith, c.size)); each = λ j l. here j (eq-or-lt_of_le (le_of_suc-le-suc l)) }
  where
    here : (j : ℕ) → (j ≡ k) ⊎ (j < k) → P j (get_or (c.list ++ (p ∷ [])) j [])
    here j (inl e) = subst⁻¹ (λ (i : ℕ). P i (get_or (c.list ++ (p ∷ [])) i [])) e (subst⁻¹ (P k) (get_or_at c.list p [] [] k c.size) h)
    here j (inr l) = subst⁻¹ (P j) (get_or-append c.list (p ∷ []) [] j (omega (arith, c.size))) (c.each j l)

pub collected : (P : ℕ → List ℕ → Type 0) (k : ℕ) → ((j : ℕ) → j < k → (p : List ℕ) × P j p) → Collected P k
collected P zero h = record { list = []; size = refl; each = λ j l. absurd (not-suc-le-zero l) }
collected P (suc k) h = let p = h k (omega arith) in one_more P k (collected P k (λ j l. h j (omega arith))) p.0 p.1
