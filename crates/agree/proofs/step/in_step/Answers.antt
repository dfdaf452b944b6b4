-- `agree::step::in_step` meets its contract: before each turn the keepers up to k are in step up to `end`.
-- Assumes nothing.
use Rattle.std.proofs.Common.{refl}
use Rattle.agree.proofs.Comparing.{comparing_start, comparing_carriage, comparing_end}
use Rattle.agree.proofs.step.in_step.Goals as goal

pub loop-k-init : goal.loop-k-init
loop-k-init c = rw c.from-k.ensures (comparing_start c.requires.rows c.first-base.result _ refl c.requires.bounds.0 c.first-base.ensures)

pub row_in_step-end-requires-clause-carriage : goal.row_in_step-end-requires-clause-carriage
row_in_step-end-requires-clause-carriage c = let i = c.loop-k.invariant in comparing_carriage c.requires.rows i c.requires.t_small c.requires.bounds.1

pub returns : goal.returns
returns c = comparing_end c.requires.rows c.loop-k.invariant c.loop-k-test.false
