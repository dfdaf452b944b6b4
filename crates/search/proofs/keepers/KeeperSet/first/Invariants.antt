-- `search::keepers::KeeperSet::first` meets its contract: the keepers gathered so far are those up to k.
-- Assumes nothing.
use Rattle.lists.specs.KeeperSet.{member}
use Rattle.search.proofs.Gathered.{Gathered}
use Rattle.search.proofs.keepers.KeeperSet.first.Given as goal

abbrev pub invariant-loop-k : goal.invariant-loop-k
invariant-loop-k l = Gathered (member l.self.bits) l.t l.who l.found l.k
