-- `block::bytes::same` meets its contract: the bytes passed are the same until two of them are not.
-- Assumes nothing.
use Rattle.lists.specs.Passed.{Passed}
use Rattle.block.proofs.bytes.same.Given as goal

abbrev pub invariant-loop-i : goal.invariant-loop-i
invariant-loop-i l = Passed l.a l.b l.i l.same
