-- `compare::put::put` meets its contract, part by part.
-- Assumes nothing.
use Rattle.compare.proofs.Putting.{LaidParts}
use Rattle.compare.proofs.put.put.Given as goal

abbrev pub invariant-loop-part : goal.invariant-loop-part
invariant-loop-part l = LaidParts l.first l.second l.initial.list l.parts l.part-index l.list l.next
