-- `format::reader::block_at` meets its contract: the part that it lends is 512 bytes long.
-- Assumes nothing.
use Rattle.std.proofs.Common.{◌+◌, ◌-◌, ◌*◌, ◌≡◌, arith, length-take, length-drop}
use Rattle.format.proofs.reader.block_at.Goals as goal

pub returns : goal.returns
returns c =
    let at = 512 * c.args.place in
    let whole : at + 512 - at ≡ 512 = omega arith in
    (rw whole, rw (whole, length-take, length-drop) (omega arith))
