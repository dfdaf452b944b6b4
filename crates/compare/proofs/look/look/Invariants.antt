-- `compare::look::look` meets its contract, part by part.
-- Assumes nothing.
use Rattle.compare.specs.Parts.{Looked}
use Rattle.compare.proofs.look.look.Given as goal

abbrev pub invariant-loop-p : goal.invariant-loop-p
invariant-loop-p l = Looked l.first l.second l.p l.initial.parts l.parts l.found
