-- `pick::ranks::gather` meets its contract: the ranks are listed from the front.
-- Assumes nothing.
use Rattle.std.proofs.Common.{arith}
use Rattle.pick.proofs.Gathering.{gathered_next, gathered_all}
use Rattle.tray.specs.SlotLaws.{length-slot}
use Rattle.pick.proofs.ranks.gather.Goals as goal

pub rank_in-requires : goal.rank_in-requires
rank_in-requires c = rw c.slot_of.ensures (length-slot _ _ (omega arith) (omega arith))

pub loop-k-preserved : goal.loop-k-preserved
loop-k-preserved c = gathered_next c.loop-k.invariant (omega arith) (omega arith) c.slot_of.ensures c.rank_in.ensures

pub returns : goal.returns
returns c = gathered_all c.loop-k.invariant (omega arith)
