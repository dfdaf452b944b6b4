-- `search::Search::matching` meets its contract: the set so far is that of the keepers up to k that pass.
-- Assumes nothing.
use Rattle.std.proofs.Common.{◌≡◌}
use Rattle.field.specs.Modulo.{mod257}
use Rattle.lists.specs.KeeperSet.{keeper_set, member}
use Rattle.search.specs.Search.{word, carried_to}
use Rattle.search.proofs.Search.matching.Given as goal

abbrev pub invariant-loop-k : goal.invariant-loop-k
invariant-loop-k l = l.set.bits ≡ keeper_set (carried_to mod257 (member l.self.among.bits) (word l.self.words) l.points) l.k
