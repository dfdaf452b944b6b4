-- `commands::reading::show_slot` meets its contract: the head of a good slot is lawful.
-- Assumes nothing.
use Rattle.std.proofs.Common.{sym}
use Rattle.format.specs.ReadingBounds.{good_lawful}
use Rattle.commands.proofs.reading.show_slot.Goals as goal

pub show-requires : goal.show-requires
show-requires c = good_lawful c.args.slot.now c.in-Ok.head (sym c.in-Ok.ensures)
