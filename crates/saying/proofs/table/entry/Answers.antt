-- `saying::table::entry` meets its contract: what is left is the text from the line on, one line a turn.
-- Assumes nothing.
use Rattle.std.proofs.Common.{refl, add-one, ◌∙◌}
use Rattle.saying.specs.Table.{rest_at}
use Rattle.saying.proofs.table.entry.Goals as goal

pub loop-init : goal.loop-init
unfolding rest_at
loop-init c = refl

pub loop-preserved : goal.loop-preserved
unfolding rest_at
loop-preserved c = c.rest-left.ensures ∙ rw (c.loop.invariant, add-one) refl
