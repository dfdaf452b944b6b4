-- `block::words::take_words` meets its contract: the row is filled from the front.
-- Assumes nothing.
use Rattle.std.proofs.Common.{◌∙◌, arith, length}
use Rattle.block.specs.TakenLaws.{words-from}
use Rattle.lists.specs.Filling.{filling_none, filling_more, filling_done}
use Rattle.block.proofs.words.take_words.Goals as goal

pub loop-i-init : goal.loop-i-init
loop-i-init c = filling_none

pub loop-i-preserved : goal.loop-i-preserved
loop-i-preserved c = filling_more c.loop-i.invariant (omega arith) c.word_at.ensures

pub returns : goal.returns
returns c = filling_done c.loop-i.invariant (omega arith) ∙ words-from c.args.bytes.now c.args.from (length c.args.row.now) c.requires
