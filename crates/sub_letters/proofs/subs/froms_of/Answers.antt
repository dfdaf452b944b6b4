-- `sub_letters::subs::froms_of` meets its contract: the words are filled from the front with what the sub-letters name.
-- Assumes nothing.
use Rattle.std.proofs.Common.{arith}
use Rattle.lists.specs.Filling.{filling_none, filling_more}
use Rattle.sub_letters.proofs.Fronts.{front_filled}
use Rattle.sub_letters.specs.Subs.{froms_of}
use Rattle.sub_letters.proofs.subs.froms_of.Goals as goal

pub loop-k-init : goal.loop-k-init
loop-k-init c = filling_none

pub loop-k-preserved : goal.loop-k-preserved
loop-k-preserved c = filling_more c.loop-k.invariant (omega (arith, c.requires.few, c.loop-k.invariant.size)) c.from_at.ensures

pub returns : goal.returns
unfolding froms_of
returns c = front_filled c.loop-k.invariant (omega arith)
