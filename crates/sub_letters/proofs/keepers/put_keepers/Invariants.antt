-- `sub_letters::keepers::put_keepers` meets its contract: the row is filled from the front with the keepers.
-- Assumes nothing.
use Rattle.std.proofs.Common.{get_or}
use Rattle.lists.specs.Filling.{Filling}
use Rattle.sub_letters.proofs.keepers.put_keepers.Given as goal

abbrev pub invariant-loop-i : goal.invariant-loop-i
invariant-loop-i l = Filling (λ k. get_or l.keepers k 0) l.initial.row l.i l.row
