-- `shares::columns::put_coefficients` meets its contract: the column is filled from the front with the random words of its power.
-- Assumes nothing.
use Rattle.std.proofs.Common.{refl, arith}
use Rattle.lists.specs.Filling.{filling_none, filling_more, filling_done}
use Rattle.shares.proofs.columns.put_coefficients.Goals as goal

pub loop-i-init : goal.loop-i-init
loop-i-init c = filling_none

pub loop-i-preserved : goal.loop-i-preserved
loop-i-preserved c = filling_more c.loop-i.invariant (omega arith) refl

pub returns : goal.returns
returns c = filling_done c.loop-i.invariant (omega arith)
