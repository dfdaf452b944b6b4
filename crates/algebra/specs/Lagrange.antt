-- The value of a polynomial at any place is the sum of its values at the points, each times its factor.
-- Assumes nothing.
use Rattle.std.specs.Prelude.{ℕ, ◌≤◌, ◌≡◌, length}
use Rattle.std.proofs.Math.Path.{refl, sym}
use Rattle.std.proofs.Common.{ap₂, ◌∙◌, inl, inr, arith}
use mathlib.Core.List.{List, [], ◌∷◌}
use Rattle.lists.specs.Below.{Below}
use Rattle.lists.specs.Member.{In}
use Rattle.algebra.specs.Divide.{quotient, length-quotient, below_quotient, eval-quotient}
use Rattle.algebra.specs.Factor.{factor, factor_self, factor-other}
use Rattle.algebra.specs.Field.{Ops, IsField}
use Rattle.algebra.specs.Points.{Points, points_head, points_tail, points_skip, points_apart, points_in}
use Rattle.algebra.specs.Poly.{eval, eval_lt}
use Rattle.algebra.specs.Ratio.{ratio, ratio_two, ratio_three}
use Rattle.algebra.specs.Ring.{ring, zero-mul, one_mul, sub_not_zero}
use Rattle.algebra.specs.Total.{total, total_same, total-add, total-mul}

module _ {O : Ops} (F : IsField O) where
  infixl 60 ◌⊕◌ ◌⊖◌
  infixl 70 ◌⊗◌
  open O use {q, add as ◌⊕◌, sub as ◌⊖◌, mul as ◌⊗◌, inv}

  -- a sum over xs of r times f and s times g
  total_two : (h f g : ℕ → ℕ) (r s : ℕ) (xs : List ℕ) → ((x : ℕ) → In x xs → h x ≡ r ⊗ f x ⊕ s ⊗ g x) → total O h xs ≡ r ⊗ total O f xs ⊕ s ⊗ total O g xs
  total_two h f g r s xs e =
      total_same O h (λ x. r ⊗ f x ⊕ s ⊗ g x) xs e
      ∙ total-add F (λ x. r ⊗ f x) (λ x. s ⊗ g x) xs
      ∙ ap₂ O.add (total-mul F r f xs) (total-mul F s g xs)

  join : (u v i j k l : ℕ) → u ⊗ i ⊕ (v ⊗ j ⊕ (u ⊗ k ⊕ v ⊗ l)) ≡ u ⊗ (i ⊕ k) ⊕ v ⊗ (j ⊕ l)
  join u v i j k l = simp (ring, F)

  share : (u v m n e : ℕ) → (u ⊗ m ⊕ v ⊗ n) ⊗ e ≡ u ⊗ (m ⊗ e) ⊕ v ⊗ (n ⊗ e)
  share u v m n e = simp (ring, F)

  ones_point : (a b c x : ℕ) (cs : List ℕ) → Points q (a ∷ c ∷ cs) → In b cs
      → ratio O a b x ⊗ factor O (c ∷ cs) b x ≡ ratio O c a x ⊗ (ratio O a b x ⊗ factor O cs b x) ⊕ ratio O a c x ⊗ (ratio O c b x ⊗ factor O cs b x)
  ones_point a b c x cs P m =
      let nbc = points_apart (points_tail P) b m in
      let three = ratio_three F a b c x (points_head P) (points_in P b (inr (inr m))) (points_head (points_tail P)) (λ e. points_apart P c (inl refl) (sym e)) (points_apart P b (inr m)) nbc in
      let e = factor O cs b x in
      cc (factor-other O c cs b x nbc, three, F.mul_assoc (ratio O a b x) (ratio O c b x) e, share (ratio O c a x) (ratio O a c x) (ratio O a b x) (ratio O c b x) e)

  ones_step : (a c x : ℕ) (cs : List ℕ) → Points q (a ∷ c ∷ cs)
      → factor O cs a x ⊕ total O (λ b. ratio O a b x ⊗ factor O cs b x) cs ≡ 1
      → factor O cs c x ⊕ total O (λ b. ratio O c b x ⊗ factor O cs b x) cs ≡ 1
      → factor O (c ∷ cs) a x ⊕ (ratio O a c x ⊗ factor O (c ∷ cs) c x ⊕ total O (λ b. ratio O a b x ⊗ factor O (c ∷ cs) b x) cs) ≡ 1
  ones_step a c x cs P ha hc =
      let u = ratio O c a x in
      let v = ratio O a c x in
      let f : ℕ → ℕ = λ b. ratio O a b x ⊗ factor O cs b x in
      let g : ℕ → ℕ = λ b. ratio O c b x ⊗ factor O cs b x in
      let n : a ≡ c → ⊥ = λ e. points_apart P c (inl refl) (sym e) in
      cc (
        factor-other O c cs a x n,
        factor_self O cs c x,
        total_two (λ b. ratio O a b x ⊗ factor O (c ∷ cs) b x) f g u v cs (λ b m. ones_point a b c x cs P m),
        join u v (factor O cs a x) (factor O cs c x) (total O f cs) (total O g cs),
        F.mul_one u (F.mul_lt (x ⊖ c) (inv (a ⊖ c))),
        F.mul_one v (F.mul_lt (x ⊖ a) (inv (c ⊖ a))),
        ratio_two F a c x (points_head P) (points_head (points_tail P)) n,
      )

  -- the law for the constant 1: the factors of the points a ∷ cs come to 1
  ones : (cs : List ℕ) (a x : ℕ) → Points q (a ∷ cs) → factor O cs a x ⊕ total O (λ b. ratio O a b x ⊗ factor O cs b x) cs ≡ 1
  unfolding factor total
  ones [] a x P = F.add-zero 1 F.one_lt
  ones (c ∷ cs) a x P = ones_step a c x cs P (ones cs a x (points_skip P)) (ones cs c x (points_tail P))

  divide : (v d w r i e : ℕ) → (v ⊕ d ⊗ w) ⊗ (r ⊗ i ⊗ e) ≡ v ⊗ (r ⊗ i ⊗ e) ⊕ d ⊗ i ⊗ (r ⊗ (w ⊗ e))
  divide v d w r i e = simp (ring, F)

  gather : (v i k e : ℕ) → v ⊗ i ⊕ (v ⊗ k ⊕ e) ≡ v ⊗ (i ⊕ k) ⊕ e
  gather v i k e = simp (ring, F)

  module _ (a c x : ℕ) (cs xs : List ℕ) (P : Points q (a ∷ xs)) (B : Below q (c ∷ cs)) where
    lagrange_point : (b : ℕ) → In b xs
        → eval O (c ∷ cs) b ⊗ factor O (a ∷ xs) b x ≡ eval O (c ∷ cs) a ⊗ (ratio O a b x ⊗ factor O xs b x) ⊕ (x ⊖ a) ⊗ (eval O (quotient O a cs) b ⊗ factor O xs b x)
    lagrange_point b m =
        let n = points_apart P b m in
        let e = factor O xs b x in
        let w = eval O (quotient O a cs) b in
        cc (
          eval-quotient F a c cs b B,
          factor-other O a xs b x n,
          divide (eval O (c ∷ cs) a) (b ⊖ a) w (x ⊖ a) (inv (b ⊖ a)) e,
          F.mul-inv (b ⊖ a) (F.sub_lt b a) (sub_not_zero F b a (points_in P b (inr m)) (points_head P) n),
          one_mul F ((x ⊖ a) ⊗ (w ⊗ e)) (F.mul_lt (x ⊖ a) (w ⊗ e)),
        )

    lagrange_step : eval O (quotient O a cs) x ≡ total O (λ b. eval O (quotient O a cs) b ⊗ factor O xs b x) xs
        → eval O (c ∷ cs) x ≡ eval O (c ∷ cs) a ⊗ factor O (a ∷ xs) a x ⊕ total O (λ b. eval O (c ∷ cs) b ⊗ factor O (a ∷ xs) b x) xs
    lagrange_step h =
        let v = eval O (c ∷ cs) a in
        let f : ℕ → ℕ = λ b. ratio O a b x ⊗ factor O xs b x in
        let g : ℕ → ℕ = λ b. eval O (quotient O a cs) b ⊗ factor O xs b x in
        cc (
          eval-quotient F a c cs x B,
          factor_self O xs a x,
          total_two (λ b. eval O (c ∷ cs) b ⊗ factor O (a ∷ xs) b x) f g v (x ⊖ a) xs lagrange_point,
          ones xs a x P,
          gather v (factor O xs a x) (total O f xs) ((x ⊖ a) ⊗ total O g xs),
          F.mul_one v (eval_lt F (c ∷ cs) a),
        )

  pub lagrange : (xs p : List ℕ) (x : ℕ) → Points q xs → length p ≤ length xs → Below q p → eval O p x ≡ total O (λ a. eval O p a ⊗ factor O xs a x) xs
  unfolding eval total
  lagrange [] [] x P l b = refl
  lagrange [] (c ∷ cs) x P l b = absurd (omega arith)
  lagrange (a ∷ xs) [] x P l b = sym (total-mul F 0 (λ b. factor O (a ∷ xs) b x) (a ∷ xs) ∙ zero-mul F (total O (λ b. factor O (a ∷ xs) b x) (a ∷ xs)))
  lagrange (a ∷ xs) (c ∷ cs) x P l b =
      lagrange_step a c x cs xs P b (lagrange xs (quotient O a cs) x (points_tail P) (omega (arith, length-quotient F a cs)) (below_quotient F a cs))
