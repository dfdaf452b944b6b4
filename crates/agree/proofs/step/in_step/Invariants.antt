-- `agree::step::in_step` meets its contract: before each turn the keepers up to k are in step up to `end`.
-- Assumes nothing.
use Rattle.std.proofs.Common.{◌+◌, take}
use Rattle.agree.proofs.Comparing.{Comparing}
use Rattle.lists.specs.KeeperSet.{member}
use Rattle.agree.proofs.step.in_step.Given as goal

abbrev pub invariant-loop-k : goal.invariant-loop-k
invariant-loop-k l = Comparing l.t (member l.fn.set.bits) l.rows l.start l.l (take (l.t + 1) l.base) l.row l.end l.k
