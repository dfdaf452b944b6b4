-- Polynomials as lists of coefficients, the constant first, and their values.
-- Assumes nothing.
use Rattle.std.specs.Prelude.{ℕ, suc, ◌<◌, ◌≡◌, length}
use Rattle.std.proofs.Math.Path.{ap}
use Rattle.std.proofs.Common.{◌∙◌}
use mathlib.Core.List.{List, [], ◌∷◌}
use Rattle.lists.specs.Below.{Below, below_cons}
use Rattle.algebra.specs.Field.{Ops, IsField}
use Rattle.algebra.specs.Ring.{zero_lt, zero-mul, mul-zero}

-- the value at x: c + x * (the rest at x)
unfoldable pub eval : Ops → List ℕ → ℕ → ℕ
eval O [] x = 0
eval O (c ∷ cs) x = O.add c (O.mul x (eval O cs x))

-- a polynomial of degree at most t
pub record Degree (O : Ops) (t : ℕ) (p : List ℕ) : Type 0 where
  pub size : length p ≡ suc t
  pub below : Below O.q p

pub degree_cons : (O : Ops) (t c : ℕ) (cs : List ℕ) → c < O.q → length cs ≡ t → Below O.q cs → Degree O t (c ∷ cs)
degree_cons O t c cs h s b = record { size = ap suc s; below = below_cons O.q c cs h b }

module _ {O : Ops} (F : IsField O) where
  pub eval_lt : (p : List ℕ) (x : ℕ) → eval O p x < O.q
  unfolding eval
  eval_lt [] x = zero_lt F
  eval_lt (c ∷ cs) x = F.add_lt c (O.mul x (eval O cs x))

  -- the value at 0 is the constant
  pub eval-zero : (c : ℕ) (cs : List ℕ) → c < O.q → eval O (c ∷ cs) 0 ≡ c
  unfolding eval
  eval-zero c cs h = ap (λ (e : ℕ). O.add c e) (zero-mul F (eval O cs 0)) ∙ F.add-zero c h

  pub eval_constant : (c x : ℕ) → c < O.q → eval O (c ∷ []) x ≡ c
  unfolding eval
  eval_constant c x h = ap (λ (e : ℕ). O.add c e) (mul-zero F x) ∙ F.add-zero c h
