-- `tray::slot_of` meets its contract: the part that it lends is 2,048 bytes long.
-- Assumes nothing.
use Rattle.std.proofs.Common.{◌+◌, ◌-◌, ◌*◌, ◌≡◌, arith}
use Rattle.tray.specs.Tray.{slot_of}
use Rattle.tray.proofs.slot_of.Goals as goal

pub returns : goal.returns
unfolding slot_of
returns c =
    let at = 2048 * (c.args.x - 1) in
    let whole : at + 2048 - at ≡ 2048 = omega arith in
    rw whole
