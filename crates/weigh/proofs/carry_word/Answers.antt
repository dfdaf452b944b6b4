-- `weigh::carry_word` meets its contract: turn by turn the sum is what the points passed come to.
-- Assumes nothing.
use Rattle.std.proofs.Common.{refl, sym, arith}
use Rattle.algebra.specs.Combine.{combine}
use Rattle.field.specs.Modulo.{mod257}
use Rattle.weigh.specs.Carried.{partly_next}
use Rattle.weigh.proofs.carry_word.Invariants.{word}
use Rattle.weigh.proofs.carry_word.Goals as goal

pub loop-a-init : goal.loop-a-init
unfolding combine
loop-a-init c = refl

pub loop-a-preserved : goal.loop-a-preserved
loop-a-preserved c =
    let here = c.loop-a in
    let args = c.args in
    let next = partly_next mod257 args.points.now (word args.words.now) args.x here.a-index (omega arith) in
    rw (c.add-sum.ensures, c.mul.ensures, c.factor_of.ensures, here.invariant, c.from.ensures) (sym next)
