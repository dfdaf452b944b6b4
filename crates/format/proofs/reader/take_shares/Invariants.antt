-- `format::reader::take_shares` meets its contract, block by block.
-- Assumes nothing.
use Rattle.format.proofs.Filling.{FilledTo}
use Rattle.format.proofs.reader.take_shares.Given as goal

abbrev pub invariant-loop-p : goal.invariant-loop-p
invariant-loop-p l = FilledTo l.slot l.initial.row l.p-end l.row l.p
