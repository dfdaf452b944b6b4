-- `shares::rows::step` meets its contract: the row is filled from the front with what one step makes of it.
-- Assumes nothing.
use Rattle.std.proofs.Common.{get_or}
use Rattle.field.specs.Modulo.{mod257}
use Rattle.lists.specs.Filling.{Filling}
use Rattle.shares.proofs.rows.step.Given as goal

abbrev pub invariant-loop-i : goal.invariant-loop-i
invariant-loop-i l = Filling (λ k. mod257.add (get_or l.column k 0) (mod257.mul l.x (get_or l.initial.row k 0))) l.initial.row l.i l.row
