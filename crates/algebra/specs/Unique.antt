-- At most one polynomial goes through given points: two of them that agree at as many points as they have coefficients are the same.
-- Assumes nothing.
use Rattle.std.specs.Prelude.{ℕ, suc, ◌≤◌, ◌<◌, ◌≡◌, refl, List, [], ◌∷◌, length}
use Rattle.std.proofs.Common.{sym, ap₂, ◌∙◌, inl, inr, arith}
use Rattle.lists.specs.Below.{Below}
use Rattle.lists.specs.Member.{In}
use Rattle.algebra.specs.Divide.{grow, quotient, length-quotient, below_quotient, grow-quotient, eval-quotient}
use Rattle.algebra.specs.Field.{Ops, IsField}
use Rattle.algebra.specs.Points.{Points, points_head, points_tail, points_apart, points_in}
use Rattle.algebra.specs.Poly.{eval, eval_lt, Degree}
use Rattle.algebra.specs.Ring.{add_cancel, mul_cancel, sub_not_zero}

module _ {O : Ops} (F : IsField O) where
  infixl 60 ◌⊕◌ ◌⊖◌
  infixl 70 ◌⊗◌
  open O use {q, add as ◌⊕◌, sub as ◌⊖◌, mul as ◌⊗◌}

  rest_same : (v d e e' : ℕ) → d < q → (d ≡ 0 → ⊥) → e < q → e' < q → v ⊕ d ⊗ e ≡ v ⊕ d ⊗ e' → e ≡ e'
  rest_same v d e e' hd nd he he' s = mul_cancel F d e e' hd nd he he' (add_cancel F v (d ⊗ e) (d ⊗ e') (F.mul_lt d e) (F.mul_lt d e') s)

  -- polynomials that agree at a and at x have quotients by x - a that agree at x
  quotient_same : (a c d x : ℕ) (cs ds : List ℕ) → Below q (c ∷ cs) → Below q (d ∷ ds) → a < q → x < q → (x ≡ a → ⊥)
      → eval O (c ∷ cs) a ≡ eval O (d ∷ ds) a → eval O (c ∷ cs) x ≡ eval O (d ∷ ds) x
      → eval O (quotient O a cs) x ≡ eval O (quotient O a ds) x
  quotient_same a c d x cs ds b b' ha hx n ea ex =
      rest_same (eval O (d ∷ ds) a) (x ⊖ a) (eval O (quotient O a cs) x) (eval O (quotient O a ds) x) (F.sub_lt x a) (sub_not_zero F x a hx ha n)
      (eval_lt F (quotient O a cs) x) (eval_lt F (quotient O a ds) x) (cc (eval-quotient F a c cs x b, eval-quotient F a d ds x b'))

  pub unique : (xs p p' : List ℕ) → Points q xs → length p ≤ length xs → length p ≡ length p' → Below q p → Below q p'
      → ((x : ℕ) → In x xs → eval O p x ≡ eval O p' x) → p ≡ p'
  unique [] [] [] P l s b b' h = refl
  unique [] [] (d ∷ ds) P l s b b' h = absurd (omega arith)
  unique [] (c ∷ cs) p' P l s b b' h = absurd (omega arith)
  unique (a ∷ xs) [] [] P l s b b' h = refl
  unique (a ∷ xs) [] (d ∷ ds) P l s b b' h = absurd (omega arith)
  unique (a ∷ xs) (c ∷ cs) [] P l s b b' h = absurd (omega arith)
  unique (a ∷ xs) (c ∷ cs) (d ∷ ds) P l s b b' h =
      sym (grow-quotient F a c cs b)
      ∙ ap₂ (grow O a) (h a (inl refl)) (unique xs (quotient O a cs) (quotient O a ds) (points_tail P)
      (omega (arith, length-quotient F a cs)) (omega (arith, length-quotient F a cs, length-quotient F a ds)) (below_quotient F a cs) (below_quotient F a ds)
      (λ x m. quotient_same a c d x cs ds b b' (points_head P) (points_in P x (inr m)) (points_apart P x m) (h a (inl refl)) (h x (inr m))))
      ∙ grow-quotient F a d ds b'

  pub unique_degree : (t : ℕ) (xs p p' : List ℕ) → Points q xs → suc t ≤ length xs → Degree O t p → Degree O t p'
      → ((x : ℕ) → In x xs → eval O p x ≡ eval O p' x) → p ≡ p'
  unique_degree t xs p p' P l d d' h = unique xs p p' P (omega arith) (omega arith) d.below d'.below h
