-- `compare::put::put_part` meets its contract, word by word.
-- Assumes nothing.
use Rattle.std.proofs.Common.{◌*◌}
use Rattle.compare.proofs.Putting.{LaidTo}
use Rattle.compare.specs.Compare.{differs, difference}
use Rattle.compare.proofs.put.put_part.Given as goal

abbrev pub invariant-loop-j : goal.invariant-loop-j
invariant-loop-j l = LaidTo (differs l.first l.second) (8 * l.p) (difference l.first l.second) l.initial.list l.at l.j l.list l.next
