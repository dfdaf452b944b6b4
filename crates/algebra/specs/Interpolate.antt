-- At least one polynomial goes through given points: the one with the values y at the points xs, built a point at a time.
-- Assumes nothing.
use Prim.Native.Nat.{ℕ, suc, ◌<◌}
use Rattle.std.specs.Prelude.{◌≡◌, length}
use Rattle.std.proofs.Math.Path.{refl, ap}
use Rattle.std.proofs.Common.{ap₂, ◌∙◌, inl, inr}
use mathlib.Core.List.{List, [], ◌∷◌}
use Rattle.lists.specs.Below.{Below, below_nil}
use Rattle.lists.specs.Member.{In}
use Rattle.algebra.specs.Divide.{grow, eval-grow, length-grow, below_grow}
use Rattle.algebra.specs.Field.{Ops, IsField}
use Rattle.algebra.specs.Points.{Points, points_head, points_tail, points_apart, points_in}
use Rattle.algebra.specs.Poly.{eval, Degree}
use Rattle.algebra.specs.Ring.{zero-mul, sub-add, mul_back, sub_not_zero}

-- the values that the quotient by x - a must have
abbrev slope : Ops → ℕ → (ℕ → ℕ) → ℕ → ℕ
slope O a y x = O.mul (O.sub (y x) (y a)) (O.inv (O.sub x a))

-- the polynomial through the values y at the points xs
unfoldable pub interpolate : Ops → List ℕ → (ℕ → ℕ) → List ℕ
interpolate O [] y = []
interpolate O (a ∷ xs) y = grow O a (y a) (interpolate O xs (slope O a y))

-- it is made of the values at its points alone
pub interpolate_same : (O : Ops) (xs : List ℕ) (y y' : ℕ → ℕ) → ((x : ℕ) → In x xs → y x ≡ y' x) → interpolate O xs y ≡ interpolate O xs y'
unfolding interpolate
interpolate_same O [] y y' h = refl
interpolate_same O (a ∷ xs) y y' h =
    ap₂ (grow O a) (h a (inl refl))
    (interpolate_same O xs (slope O a y) (slope O a y')
    (λ x m. ap₂ (λ (v w : ℕ). O.mul (O.sub v w) (O.inv (O.sub x a))) (h x (inr m)) (h a (inl refl))))

module _ {O : Ops} (F : IsField O) where
  infixl 60 ◌⊕◌ ◌⊖◌
  infixl 70 ◌⊗◌
  open O use {q, add as ◌⊕◌, sub as ◌⊖◌, mul as ◌⊗◌}

  pub length-interpolate : (xs : List ℕ) (y : ℕ → ℕ) → length (interpolate O xs y) ≡ length xs
  unfolding interpolate
  length-interpolate [] y = refl
  length-interpolate (a ∷ xs) y = length-grow F a (y a) (interpolate O xs (slope O a y)) ∙ ap suc (length-interpolate xs (slope O a y))

  slope_lt : (a : ℕ) (y : ℕ → ℕ) (x : ℕ) → slope O a y x < q
  slope_lt a y x = F.mul_lt (y x ⊖ y a) (O.inv (x ⊖ a))

  pub below_interpolate : (xs : List ℕ) (y : ℕ → ℕ) → ((x : ℕ) → In x xs → y x < q) → Below q (interpolate O xs y)
  unfolding interpolate
  below_interpolate [] y h = below_nil q
  below_interpolate (a ∷ xs) y h = below_grow F a (y a) (interpolate O xs (slope O a y)) (h a (inl refl)) (below_interpolate xs (slope O a y) (λ x m. slope_lt a y x))

  at_point : (v e a : ℕ) → v < q → v ⊕ (a ⊖ a) ⊗ e ≡ v
  at_point v e a h = rw (F.sub_self a, zero-mul F e) (F.add-zero v h)

  at_other : (v w d : ℕ) → w < q → d < q → (d ≡ 0 → ⊥) → v ⊕ d ⊗ ((w ⊖ v) ⊗ O.inv d) ≡ w
  at_other v w d hw hd n = ap (λ (e : ℕ). v ⊕ e) (mul_back F d (w ⊖ v) hd n (F.sub_lt w v)) ∙ sub-add F w v hw

  pub eval-interpolate : (xs : List ℕ) (y : ℕ → ℕ) → Points q xs → ((x : ℕ) → In x xs → y x < q) → (x : ℕ) → In x xs → eval O (interpolate O xs y) x ≡ y x
  unfolding interpolate
  eval-interpolate [] y P h x m = absurd m
  eval-interpolate (a ∷ xs) y P h x (inl e) =
      let r = interpolate O xs (slope O a y) in
      rw e (eval-grow F a (y a) r a ∙ at_point (y a) (eval O r a) a (h a (inl refl)))
  eval-interpolate (a ∷ xs) y P h x (inr m) =
      eval-grow F a (y a) (interpolate O xs (slope O a y)) x
      ∙ ap (λ (e : ℕ). y a ⊕ (x ⊖ a) ⊗ e) (eval-interpolate xs (slope O a y) (points_tail P) (λ z k. slope_lt a y z) x m)
      ∙ at_other (y a) (y x) (x ⊖ a) (h x (inr m)) (F.sub_lt x a) (sub_not_zero F x a (points_in P x (inr m)) (points_head P) (points_apart P x m))

  pub interpolate_degree : (t : ℕ) (xs : List ℕ) (y : ℕ → ℕ) → length xs ≡ suc t → ((x : ℕ) → In x xs → y x < q) → Degree O t (interpolate O xs y)
  interpolate_degree t xs y s h = record { size = length-interpolate xs y ∙ s; below = below_interpolate xs y h }
