-- `format::letter::write_as` meets its contract, block by block, over zeros.
-- Assumes nothing.
use Rattle.format.proofs.Writing.{WrittenTo}
use Rattle.format.proofs.letter.write_as.Given as goal

abbrev pub invariant-loop-p : goal.invariant-loop-p
invariant-loop-p l = WrittenTo l.mark l.from l.h l.shares l.p-end l.slot l.p
