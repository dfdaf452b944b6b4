-- `weigh::reduce` meets its contract: turn by turn the row's front is the sums' remainders, and the rest is as it was.
-- Assumes nothing.
use Rattle.std.proofs.Common.{refl, arith, length-set}
use Rattle.lists.specs.Listed.{listed, set-listed}
use Rattle.weigh.proofs.reduce.Invariants.{remainder}
use Rattle.weigh.proofs.reduce.Goals as goal

pub loop-i-init : goal.loop-i-init
unfolding listed
loop-i-init c = (refl, refl)

pub loop-i-preserved : goal.loop-i-preserved
loop-i-preserved c =
    let here = c.loop-i in
    let args = c.args in
    let next = set-listed (remainder args.sums.now) here.i args.row.now (omega arith) in
    (simp length-set here.invariant.0, rw here.invariant.1 next)
