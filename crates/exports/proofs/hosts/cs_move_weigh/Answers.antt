-- `exports::hosts::cs_move_weigh` meets its contract: the number of a sub-letter and a fault's place are small.
-- Assumes nothing.
use Rattle.std.proofs.Common.{arith, ap}
use Rattle.sub_letters.specs.Judging.{Weighing}
use Rattle.exports.specs.MovePlaces.{small_weighing}
use Rattle.exports.proofs.hosts.cs_move_weigh.Goals as goal

pub overflow_cast-result : goal.overflow_cast-result
overflow_cast-result c =
    let small = small_weighing c.as_move-m.result c.args.keepers.now c.args.keeper c.args.letters.now c.args.slot.now in
    omega (arith, ap (λ (w : Weighing). w.letter) c.in-Err.ensures.answers, small.letter)

pub overflow_cast-result-in-Err : goal.overflow_cast-result-in-Err
overflow_cast-result-in-Err c =
    let small = small_weighing c.as_move-m.result c.args.keepers.now c.args.keeper c.args.letters.now c.args.slot.now in
    omega (arith, ap (λ (w : Weighing). w.place) c.in-Err.ensures.answers, small.place)
