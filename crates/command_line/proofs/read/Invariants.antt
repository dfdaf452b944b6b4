-- `command_line::read` ends: fewer words are left after each.
-- Assumes nothing.
use Rattle.options.specs.Places.{left}
use Rattle.command_line.proofs.read.Given as goal

abbrev pub decreases-loop-at : goal.decreases-loop-at
decreases-loop-at l = left l.places
