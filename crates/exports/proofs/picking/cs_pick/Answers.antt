-- `exports::picking::cs_pick` meets its contract: what is picked is a letter's length.
-- Assumes nothing.
use Rattle.std.proofs.Common.{arith}
use Rattle.pick.specs.PickedLaws.{picked-length}
use Rattle.exports.proofs.picking.cs_pick.Goals as goal

pub overflow_cast-result : goal.overflow_cast-result
overflow_cast-result c = omega (arith, picked-length c.pick-picked.ensures)
