-- `format::letter::write_as` meets its contract, block by block, over zeros.
-- Assumes nothing.
use Rattle.std.proofs.Common.{arith}
use Rattle.format.proofs.Counting.{counted}
use Rattle.format.proofs.Writing.{written_none, written_next, written_all}
use Rattle.header.specs.HeadLaws.{lawful_head_facts}
use Rattle.format.proofs.letter.write_as.Goals as goal

pub loop-p-init : goal.loop-p-init
loop-p-init c =
    let facts = lawful_head_facts _ c.requires.0 in
    written_none _ _ _ _ _ _ (counted _ _ (omega (arith, facts, c.requires.1)) c.blocks-p-end.ensures) _ c.requires.2 (c.fill.ensures.after (λ y e. e))

pub loop-p-preserved : goal.loop-p-preserved
loop-p-preserved c = written_next _ _ _ _ _ _ _ c.loop-p.invariant c.loop-p-test.true _ c.end_of-to.ensures _ c.write_block.ensures

pub returns : goal.returns
returns c = written_all _ _ _ _ _ _ _ c.loop-p.invariant c.loop-p-test.false c.requires.1
