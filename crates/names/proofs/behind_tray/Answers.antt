-- `names::behind_tray` meets its contract: the number is written right behind the stroke.
-- Assumes nothing.
use Rattle.std.proofs.Common.{refl}
use Rattle.lines.specs.Text.{text}
use Rattle.lists.specs.Listed.{listed}
use Rattle.names.proofs.behind_tray.Goals as goal

pub returns : goal.returns
unfolding text listed
returns c = rw (c.put_decimal.ensures.written, c.put.ensures.written, c.new-behind.ensures) refl
