-- `agree::step::difference` meets its contract: rows that are the same differ nowhere, and of others the words passed are alike.
-- Assumes nothing.
use Rattle.std.proofs.Common.{length, get_or}
use Rattle.agree.specs.Kept.{Alike}
use Rattle.agree.proofs.step.difference.Given as goal

abbrev pub invariant-loop-i : goal.invariant-loop-i
invariant-loop-i l = Alike (λ j. get_or l.a j 0) (λ j. get_or l.b j 0) l.start (length l.a) l.i
