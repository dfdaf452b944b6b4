-- What it says that a row of tests is passed.
-- Assumes nothing.
use Rattle.std.specs.Prelude.{ℕ, suc, ◌≡◌, refl, Bool, true, false, cond, ◌&&◌}
use Rattle.std.proofs.Math.Bool.{and-eq-true_iff}
use Rattle.std.proofs.Common.{arith, leb-true, eqb-true, le-leb, eq-eqb}

pub and_left : (a b : Bool) → (a && b) ≡ true → a ≡ true
and_left a b e = ((and-eq-true_iff a b).0 e).0

pub and_right : (a b : Bool) → (a && b) ≡ true → b ≡ true
and_right a b e = ((and-eq-true_iff a b).0 e).1

-- for `search`: each test's fact, of the row
pub ruleset passed = (and_left, and_right, leb-true, eqb-true)

-- for `simp`: each test, of its fact
pub ruleset passes = (le-leb, eq-eqb)

-- a test that would give a number, where none is given: it passes, and so does the rest
pub passing : (test : Bool) (rest number : ℕ) → cond test rest (suc number) ≡ 0 → (test ≡ true) × (rest ≡ 0)
passing true rest number e = (refl, e)
passing false rest number e = absurd (omega arith)
