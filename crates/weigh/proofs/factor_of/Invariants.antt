-- `weigh::factor_of` meets its contract: turn by turn the fraction is the factor against the points passed.
-- Assumes nothing.
use Rattle.std.proofs.Common.{ℕ, ◌≡◌, List, take}
use Rattle.algebra.specs.Factor.{factor}
use Rattle.field.specs.Modulo.{mod257}
use Rattle.weigh.proofs.factor_of.Given as goal

abbrev pub Passed : List ℕ → ℕ → ℕ → ℕ → ℕ → ℕ → Type 0
Passed points i a x above below = mod257.mul above (mod257.inv below) ≡ factor mod257 (take i points) a x

abbrev pub invariant-loop-b : goal.invariant-loop-b
invariant-loop-b l = Passed l.points l.b-index l.a l.x l.above l.below
