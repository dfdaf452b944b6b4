-- `pick::ranks::gather` meets its contract: the ranks are listed from the front.
-- Assumes nothing.
use Rattle.pick.proofs.Gathering.{GatheredTo}
use Rattle.pick.proofs.ranks.gather.Given as goal

abbrev pub invariant-loop-k : goal.invariant-loop-k
invariant-loop-k l = GatheredTo l.told l.tray l.initial.ranks l.ranks l.k
