-- `exports::hosts::cs_move_cut` meets its contract: a fault's place is small.
-- Assumes nothing.
use Rattle.std.proofs.Common.{arith}
use Rattle.exports.specs.MovePlaces.{small_cut-place}
use Rattle.exports.proofs.hosts.cs_move_cut.Goals as goal

pub overflow_cast-result : goal.overflow_cast-result
overflow_cast-result c =
    omega (arith, c.in-Err.ensures.place_is, small_cut-place c.as_move-m.result c.args.keeper c.args.letter.now c.args.random.now c.args.tray.now)
