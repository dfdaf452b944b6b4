-- `format::reader::read_on` meets its contract, block by block: what the blocks from place 1 on come to, the blocks from here on come to.
-- Assumes nothing.
use Rattle.std.proofs.Common.{◌≡◌}
use Rattle.format.specs.Reading.{judged_from}
use Rattle.format.proofs.reader.read_on.Given as goal

abbrev pub invariant-loop-place : goal.invariant-loop-place
invariant-loop-place l = judged_from l.mark l.most l.slot l.first 1 ≡ judged_from l.mark l.most l.slot l.first l.place
