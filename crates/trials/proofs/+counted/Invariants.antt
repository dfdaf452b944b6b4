-- The measure of `trials::counted` is the keepers left.
-- Assumes nothing.
use Rattle.std.proofs.Common.{◌-◌}
use Rattle.trials.proofs.+counted.Given as goal

abbrev pub decreases-counted : goal.decreases-counted
decreases-counted l = 16 - l.next
