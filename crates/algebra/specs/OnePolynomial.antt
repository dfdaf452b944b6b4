-- The one polynomial: through t + 1 points goes exactly one polynomial of degree at most t, whatever its values there are to be.
-- Assumes nothing.
use Rattle.std.specs.Prelude.{ℕ, suc, ◌<◌, ◌≡◌, List, length}
use Rattle.std.proofs.Common.{sym, ◌∙◌, le_of_eq}
use Rattle.lists.specs.ExactlyOne.{ExactlyOne}
use Rattle.lists.specs.Member.{In}
use Rattle.algebra.specs.Field.{Ops, IsField}
use Rattle.algebra.specs.Interpolate.{interpolate, eval-interpolate, interpolate_degree}
use Rattle.algebra.specs.Points.{Points}
use Rattle.algebra.specs.Poly.{eval, Degree}
use Rattle.algebra.specs.Unique.{unique_degree}

-- p has degree at most t, and the value y at each of the points xs
pub record Passes (O : Ops) (t : ℕ) (xs : List ℕ) (y : ℕ → ℕ) (p : List ℕ) : Type 0 where
  pub degree : Degree O t p
  pub values : (x : ℕ) → In x xs → eval O p x ≡ y x

pub one_polynomial : {O : Ops} → IsField O → (t : ℕ) (xs : List ℕ) (y : ℕ → ℕ) → Points O.q xs → length xs ≡ suc t → ((x : ℕ) → In x xs → y x < O.q)
    → ExactlyOne (Passes O t xs y)
one_polynomial {O} F t xs y P s h =
    let i : Passes O t xs y (interpolate O xs y) = record { degree = interpolate_degree F t xs y s h; values = eval-interpolate F xs y P h } in
    record {
      one = interpolate O xs y;
      holds = i;
      only = λ p g. unique_degree F t xs p (interpolate O xs y) P (le_of_eq (sym s)) g.degree i.degree (λ x m. g.values x m ∙ sym (i.values x m));
    }
