-- The factor by which a value at the point a counts at the place x: the product, over the points b other than a, of (x - b) / (a - b).
-- Assumes nothing.
use Rattle.std.specs.Prelude.{ℕ, suc, ◌<◌, ◌≡◌, Bool, length, get_or, take, eqb}
use Rattle.std.proofs.Math.Path.{refl, ap}
use Rattle.std.proofs.Common.{◌∙◌, take-suc, eq-eqb, ne_eqb}
use Rattle.std.proofs.Math.Bool.{true, false, cond}
use mathlib.Core.List.{List, [], ◌∷◌, ◌++◌}
use Rattle.algebra.specs.Field.{Ops, IsField}
use Rattle.algebra.specs.Ratio.{ratio}
use Rattle.algebra.specs.Ring.{mul_left_comm}

unfoldable pub factor : Ops → List ℕ → ℕ → ℕ → ℕ
factor O [] a x = 1
factor O (b ∷ bs) a x = cond (eqb a b) (factor O bs a x) (O.mul (ratio O b a x) (factor O bs a x))

pub factor_self : (O : Ops) (bs : List ℕ) (a x : ℕ) → factor O (a ∷ bs) a x ≡ factor O bs a x
unfolding factor
factor_self O bs a x = rw (eq-eqb a a refl)

pub factor-other : (O : Ops) (b : ℕ) (bs : List ℕ) (a x : ℕ) → (a ≡ b → ⊥) → factor O (b ∷ bs) a x ≡ O.mul (ratio O b a x) (factor O bs a x)
unfolding factor
factor-other O b bs a x n = rw (ne_eqb a b n)

module _ {O : Ops} (F : IsField O) where
  pub factor_lt : (bs : List ℕ) (a x : ℕ) → factor O bs a x < O.q
  unfolding factor
  factor_lt [] a x = F.one_lt
  factor_lt (b ∷ bs) a x = step (eqb a b) (factor_lt bs a x)
    where
      step : (t : Bool) → factor O bs a x < O.q → cond t (factor O bs a x) (O.mul (ratio O b a x) (factor O bs a x)) < O.q
      step true h = h
      step false h = F.mul_lt (ratio O b a x) (factor O bs a x)

  swap : (s t : Bool) (u v e : ℕ) → cond s (cond t e (O.mul v e)) (O.mul u (cond t e (O.mul v e))) ≡ cond t (cond s e (O.mul u e)) (O.mul v (cond s e (O.mul u e)))
  swap true t u v e = refl
  swap false true u v e = refl
  swap false false u v e = mul_left_comm F u v e

  -- one more point at the end
  factor-append_one : (bs : List ℕ) (b a x : ℕ) → factor O (bs ++ (b ∷ [])) a x ≡ cond (eqb a b) (factor O bs a x) (O.mul (ratio O b a x) (factor O bs a x))
  unfolding factor
  factor-append_one [] b a x = refl
  factor-append_one (c ∷ bs) b a x =
      ap (λ (e : ℕ). cond (eqb a c) e (O.mul (ratio O c a x) e)) (factor-append_one bs b a x) ∙ swap (eqb a c) (eqb a b) (ratio O c a x) (ratio O b a x) (factor O bs a x)

  pub factor-take : (bs : List ℕ) (i a x : ℕ) → i < length bs
      → factor O (take (suc i) bs) a x ≡ cond (eqb a (get_or bs i 0)) (factor O (take i bs) a x) (O.mul (ratio O (get_or bs i 0) a x) (factor O (take i bs) a x))
  factor-take bs i a x h = rw (take-suc bs i 0 h) (factor-append_one (take i bs) (get_or bs i 0) a x)
