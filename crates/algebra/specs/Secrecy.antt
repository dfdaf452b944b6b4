-- Secrecy of one value: fewer points than coefficients, and 0 not among them, say nothing of the constant.
-- Whatever the constant is, the higher coefficients can be chosen in exactly one way to give any values at the points.
-- Assumes nothing.
use Prim.Native.Nat.{ℕ, ◌≤◌, ◌<◌}
use Rattle.std.specs.Prelude.{◌≡◌, List, ◌∷◌, length}
use Rattle.std.proofs.Common.{sym, ◌∙◌, inl, inr, arith}
use Rattle.std.proofs.Math.Path.{ap}
use Rattle.lists.specs.Below.{Below, below_cons}
use Rattle.lists.specs.ExactlyOne.{ExactlyOne}
use Rattle.lists.specs.Member.{In}
use Rattle.algebra.specs.Field.{Ops, IsField}
use Rattle.algebra.specs.Interpolate.{interpolate, length-interpolate, below_interpolate, eval-interpolate}
use Rattle.algebra.specs.Points.{Points, points_tail, points_apart, points_in}
use Rattle.algebra.specs.Poly.{eval, eval_lt, eval-zero}
use Rattle.algebra.specs.Ring.{sub-add, mul_back}
use Rattle.algebra.specs.Unique.{unique}

-- behind the constant c, the higher coefficients cs give the values y at the points xs, one coefficient for each point
pub record Gives (O : Ops) (xs : List ℕ) (y : ℕ → ℕ) (c : ℕ) (cs : List ℕ) : Type 0 where
  pub size : length cs ≡ length xs
  pub below : Below O.q cs
  pub values : (x : ℕ) → In x xs → eval O (c ∷ cs) x ≡ y x

-- the higher coefficients that do
abbrev higher : Ops → List ℕ → (ℕ → ℕ) → ℕ → List ℕ
higher O xs y c = interpolate O xs (λ x. O.mul (O.sub (y x) c) (O.inv x))

module _ {O : Ops} (F : IsField O) where
  infixl 60 ◌⊕◌ ◌⊖◌
  infixl 70 ◌⊗◌
  open O use {q, add as ◌⊕◌, sub as ◌⊖◌, mul as ◌⊗◌, inv}

  module _ (xs : List ℕ) (c : ℕ) (P : Points q (0 ∷ xs)) (h : c < q) where
    higher_gives : (y : ℕ → ℕ) → ((x : ℕ) → In x xs → y x < q) → Gives O xs y c (higher O xs y c)
    unfolding eval
    higher_gives y hy =
        let z : ℕ → ℕ = λ x. (y x ⊖ c) ⊗ inv x in
        let hz : (x : ℕ) → In x xs → z x < q = λ x m. F.mul_lt (y x ⊖ c) (inv x) in
        record {
          size = length-interpolate F xs z;
          below = below_interpolate F xs z hz;
          values = λ x m. ap (λ (e : ℕ). c ⊕ x ⊗ e) (eval-interpolate F xs z (points_tail P) hz x m)
              ∙ ap (λ (e : ℕ). c ⊕ e) (mul_back F x (y x ⊖ c) (points_in P x (inr m)) (points_apart P x m) (F.sub_lt (y x) c))
              ∙ sub-add F (y x) c (hy x m);
        }

    higher-only : (y : ℕ → ℕ) (cs cs' : List ℕ) → Gives O xs y c cs → Gives O xs y c cs' → cs ≡ cs'
    higher-only y cs cs' g g' =
        let l : length (c ∷ cs) ≤ length (0 ∷ xs) = omega (arith, g.size) in
        let s : length (c ∷ cs) ≡ length (c ∷ cs') = omega (arith, g.size, g'.size) in
        let e = unique F (0 ∷ xs) (c ∷ cs) (c ∷ cs') P l s (below_cons q c cs h g.below) (below_cons q c cs' h g'.below) same in
        cc
      where
        same : (x : ℕ) → In x (0 ∷ xs) → eval O (c ∷ cs) x ≡ eval O (c ∷ cs') x
        same x (inl e) = rw e (eval-zero F c cs h ∙ sym (eval-zero F c cs' h))
        same x (inr m) = g.values x m ∙ sym (g'.values x m)

    exactly_one : (y : ℕ → ℕ) → ((x : ℕ) → In x xs → y x < q) → ExactlyOne (Gives O xs y c)
    exactly_one y hy = record { one = higher O xs y c; holds = higher_gives y hy; only = λ cs g. higher-only y cs (higher O xs y c) g (higher_gives y hy) }

  -- the same values from another constant: to each choice of higher coefficients for c belongs exactly one for c'
  pub exchange_exactly_one : (xs : List ℕ) (c c' : ℕ) → Points q (0 ∷ xs) → c' < q → (cs : List ℕ) → ExactlyOne (Gives O xs (eval O (c ∷ cs)) c')
  exchange_exactly_one xs c c' P h' cs = exactly_one xs c' P h' (eval O (c ∷ cs)) (λ x m. eval_lt F (c ∷ cs) x)
