-- Dividing a polynomial by x - a, and undoing it. The two carry every law about the one polynomial through given points.
-- Assumes nothing.
use Prim.Native.Nat.{ℕ, suc, ◌<◌}
use Rattle.std.specs.Prelude.{◌≡◌, length}
use Rattle.std.proofs.Math.Path.{refl, ap, ap₂}
use Rattle.std.proofs.Common.{sym, ◌∙◌}
use mathlib.Core.List.{List, [], ◌∷◌}
use Rattle.lists.specs.Below.{Below, below_nil, below_head, below_tail, below_cons}
use Rattle.algebra.specs.Field.{Ops, IsField}
use Rattle.algebra.specs.Poly.{eval, eval_lt, eval_constant}
use Rattle.algebra.specs.Ring.{ring, mul-zero, add-sub}

-- v + (x - a) * p
unfoldable pub grow : Ops → ℕ → ℕ → List ℕ → List ℕ
grow O a v [] = v ∷ []
grow O a v (c ∷ cs) = O.sub v (O.mul a c) ∷ grow O a c cs

-- what is left of c + x * p when its value at a is taken away and the rest is divided by x - a, whatever c is
unfoldable pub quotient : Ops → ℕ → List ℕ → List ℕ
quotient O a [] = []
quotient O a (c ∷ cs) = eval O (c ∷ cs) a ∷ quotient O a cs

module _ {O : Ops} (F : IsField O) where
  infixl 60 ◌⊕◌ ◌⊖◌
  infixl 70 ◌⊗◌
  open O use {q, add as ◌⊕◌, sub as ◌⊖◌, mul as ◌⊗◌}

  grow_step : (a v x c e : ℕ) → v ⊖ a ⊗ c ⊕ x ⊗ (c ⊕ (x ⊖ a) ⊗ e) ≡ v ⊕ (x ⊖ a) ⊗ (c ⊕ x ⊗ e)
  grow_step a v x c e = simp (ring, F)

  pub eval-grow : (a v : ℕ) (p : List ℕ) (x : ℕ) → eval O (grow O a v p) x ≡ v ⊕ (x ⊖ a) ⊗ eval O p x
  unfolding eval grow
  eval-grow a v [] x = rw (mul-zero F x, mul-zero F (x ⊖ a))
  eval-grow a v (c ∷ cs) x = ap (λ (e : ℕ). v ⊖ a ⊗ c ⊕ x ⊗ e) (eval-grow a c cs x) ∙ grow_step a v x c (eval O cs x)

  pub length-grow : (a v : ℕ) (p : List ℕ) → length (grow O a v p) ≡ suc (length p)
  unfolding grow
  length-grow a v [] = refl
  length-grow a v (c ∷ cs) = ap suc (length-grow a c cs)

  pub below_grow : (a v : ℕ) (p : List ℕ) → v < q → Below q p → Below q (grow O a v p)
  unfolding grow
  below_grow a v [] h b = below_cons q v [] h (below_nil q)
  below_grow a v (c ∷ cs) h b = below_cons q (v ⊖ a ⊗ c) (grow O a c cs) (F.sub_lt v (a ⊗ c)) (below_grow a c cs (below_head q c cs b) (below_tail q c cs b))

  pub length-quotient : (a : ℕ) (p : List ℕ) → length (quotient O a p) ≡ length p
  unfolding quotient
  length-quotient a [] = refl
  length-quotient a (c ∷ cs) = ap suc (length-quotient a cs)

  pub below_quotient : (a : ℕ) (p : List ℕ) → Below q (quotient O a p)
  unfolding quotient
  below_quotient a [] = below_nil q
  below_quotient a (c ∷ cs) = below_cons q (eval O (c ∷ cs) a) (quotient O a cs) (eval_lt F (c ∷ cs) a) (below_quotient a cs)

  pub grow-quotient : (a c : ℕ) (cs : List ℕ) → Below q (c ∷ cs) → grow O a (eval O (c ∷ cs) a) (quotient O a cs) ≡ c ∷ cs
  unfolding eval grow quotient
  grow-quotient a c [] b = ap {B = List ℕ} (λ z. z ∷ []) (eval_constant F c a (below_head q c [] b))
  grow-quotient a c (d ∷ ds) b = ap₂ {C = List ℕ} (λ x xs. x ∷ xs) (add-sub F c (a ⊗ eval O (d ∷ ds) a) (below_head q c (d ∷ ds) b)) (grow-quotient a d ds (below_tail q c (d ∷ ds) b))

  pub eval-quotient : (a c : ℕ) (cs : List ℕ) (x : ℕ) → Below q (c ∷ cs) → eval O (c ∷ cs) x ≡ eval O (c ∷ cs) a ⊕ (x ⊖ a) ⊗ eval O (quotient O a cs) x
  eval-quotient a c cs x b = ap (λ (p : List ℕ). eval O p x) (sym (grow-quotient a c cs b)) ∙ eval-grow a (eval O (c ∷ cs) a) (quotient O a cs) x
