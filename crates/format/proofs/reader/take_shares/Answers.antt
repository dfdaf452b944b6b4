-- `format::reader::take_shares` meets its contract, block by block.
-- Assumes nothing.
use Rattle.format.proofs.Counting.{counted}
use Rattle.format.proofs.Filling.{filled_none, filled_next, filled_all}
use Rattle.format.proofs.reader.take_shares.Goals as goal

pub loop-p-init : goal.loop-p-init
loop-p-init c = filled_none _ _ _ (counted _ _ c.requires.1 c.blocks-p-end.ensures)

pub loop-p-preserved : goal.loop-p-preserved
loop-p-preserved c =
    let here = c.loop-p in
    let words = rw c.block_at.ensures.0 at c.take_words.ensures in
    filled_next _ _ _ here.row here.p here.invariant c.requires.0 c.loop-p-test.true c.end_of-to.result c.end_of-to.ensures _ words

pub returns : goal.returns
returns c = filled_all _ _ _ _ _ c.loop-p.invariant c.loop-p-test.false
