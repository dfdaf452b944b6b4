-- `compare::look::words_in` meets its contract, word by word.
-- Assumes nothing.
use Rattle.std.proofs.Common.{◌*◌}
use Rattle.compare.proofs.Turns.{CountedTo}
use Rattle.compare.specs.Compare.{differs}
use Rattle.compare.proofs.look.words_in.Given as goal

abbrev pub invariant-loop-j : goal.invariant-loop-j
invariant-loop-j l = CountedTo (differs l.first l.second) (8 * l.p) l.j l.count
