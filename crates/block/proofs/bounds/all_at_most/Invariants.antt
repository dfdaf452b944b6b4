-- `block::bounds::all_at_most` meets its contract: the largest word so far tells of all so far.
-- Assumes nothing.
use Rattle.std.proofs.Common.{◌-◌, drop}
use Rattle.block.specs.AtMostLaws.{Largest}
use Rattle.block.specs.Words.{words_of}
use Rattle.block.proofs.bounds.all_at_most.Given as goal

abbrev pub invariant-loop-i : goal.invariant-loop-i
invariant-loop-i l = Largest (drop l.from (words_of l.bytes)) (l.i - l.from) l.largest
