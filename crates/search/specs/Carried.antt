-- A word carried from the points of a polynomial of degree at most t, and that there is such a polynomial.
-- Assumes nothing.
use Rattle.std.specs.Prelude.{ℕ, suc, ◌≤◌, ◌<◌, ◌≡◌, List, length, get_or}
use Rattle.std.proofs.Common.{sym, ◌∙◌, arith}
use Rattle.lists.specs.Member.{In, in_get_d}
use Rattle.algebra.specs.Field.{Ops, IsField}
use Rattle.algebra.specs.Interpolate.{interpolate, interpolate_degree, eval-interpolate}
use Rattle.algebra.specs.Points.{Points}
use Rattle.algebra.specs.Poly.{eval, Degree}
use Rattle.weigh.specs.Carried.{carried_value}
use Rattle.weigh.specs.Weigh.{carried}

module _ {O : Ops} (F : IsField O) (t : ℕ) (xs : List ℕ) (y : ℕ → ℕ) (P : Points O.q xs) where
  pub carried_on : (p : List ℕ) → Degree O t p → suc t ≤ length xs → ((a : ℕ) → In a xs → eval O p a ≡ y a) → (x : ℕ) → carried O xs y x ≡ eval O p x
  carried_on p d l h x = carried_value F xs y x p P (omega arith) d.below (λ i k. sym (h (get_or xs i 0) (in_get_d xs i k)))

  module _ (s : length xs ≡ suc t) (b : (a : ℕ) → In a xs → y a < O.q) where
    pub through_degree : Degree O t (interpolate O xs y)
    through_degree = interpolate_degree F t xs y s b

    pub carried_through : (x : ℕ) → carried O xs y x ≡ eval O (interpolate O xs y) x
    carried_through = carried_on (interpolate O xs y) through_degree (omega arith) (eval-interpolate F xs y P b)

    pub carried_point : (x : ℕ) → In x xs → carried O xs y x ≡ y x
    carried_point x m = carried_through x ∙ eval-interpolate F xs y P b x m
