-- The measure of `search::Search::past` is the keepers left.
-- Assumes nothing.
use Rattle.std.proofs.Common.{◌-◌}
use Rattle.search.proofs.Search.+past.Given as goal

abbrev pub decreases-past : goal.decreases-past
decreases-past l = 16 - l.next
