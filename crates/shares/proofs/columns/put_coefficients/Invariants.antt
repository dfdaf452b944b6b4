-- `shares::columns::put_coefficients` meets its contract: the column is filled from the front with the random words of its power.
-- Assumes nothing.
use Rattle.std.proofs.Common.{◌+◌, ◌*◌, get_or}
use Rattle.lists.specs.Filling.{Filling}
use Rattle.shares.proofs.columns.put_coefficients.Given as goal

abbrev pub invariant-loop-i : goal.invariant-loop-i
invariant-loop-i l = Filling (λ k. get_or l.random (k * l.t + l.j) 0) l.initial.column l.i l.column
