-- `desk::lay` meets its contract: the slot held is filled from the front with the letter.
-- Assumes nothing.
use Rattle.std.proofs.Common.{get_or}
use Rattle.lists.specs.Filling.{Filling}
use Rattle.desk.proofs.lay.Given as goal

abbrev pub invariant-loop-i : goal.invariant-loop-i
invariant-loop-i l = Filling (λ k. get_or l.letter k 0) l.initial.held l.i l.held
