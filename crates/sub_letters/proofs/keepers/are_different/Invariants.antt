-- `sub_letters::keepers::are_different` meets its contract: it stops at the first that is one of those before it.
-- Assumes nothing.
use Rattle.std.proofs.Common.{length, get_or}
use Rattle.lists.specs.AllToLaws.{PassedTo}
use Rattle.sub_letters.specs.Keepers.{none_is}
use Rattle.sub_letters.proofs.keepers.are_different.Given as goal

abbrev pub invariant-loop-i : goal.invariant-loop-i
invariant-loop-i l = PassedTo (λ k. none_is (get_or l.xs k 0) l.xs k) (length l.xs) l.i
