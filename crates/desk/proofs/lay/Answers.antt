-- `desk::lay` meets its contract: the slot held is filled from the front with the letter.
-- Assumes nothing.
use Rattle.std.proofs.Common.{refl, arith}
use Rattle.lists.specs.Filling.{filling_none, filling_more, filling_copied}
use Rattle.desk.proofs.lay.Goals as goal

pub loop-i-init : goal.loop-i-init
loop-i-init c = filling_none

pub loop-i-preserved : goal.loop-i-preserved
loop-i-preserved c = filling_more c.loop-i.invariant (omega arith) refl

pub returns : goal.returns
returns c = filling_copied c.loop-i.invariant c.requires (omega arith)
