-- `shares::value::share_word` meets its contract: before each turn the value is that of the coefficients from place i on.
-- Assumes nothing.
use Rattle.std.proofs.Common.{sym, arith}
use Rattle.field.specs.Modulo.{mod257}
use Rattle.shares.specs.Horner.{horner_none, horner_step, horner_last}
use Rattle.shares.proofs.value.share_word.Goals as goal

pub loop-i-init : goal.loop-i-init
loop-i-init c = sym (horner_none mod257 c.args.coefficients.now c.args.x)

pub loop-i-preserved : goal.loop-i-preserved
loop-i-preserved c =
    horner_step mod257 c.args.coefficients.now c.args.x c.loop-i.i _ _ _ c.loop-i.invariant c.mul.ensures (omega arith) (omega arith) c.add-value.ensures

pub returns : goal.returns
returns c = horner_last mod257 c.args.coefficients.now c.args.x c.loop-i.i _ _ _ c.loop-i.invariant c.mul-2.ensures c.args.constant (omega arith) c.add.ensures
