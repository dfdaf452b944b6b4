-- `block::words::take_words` meets its contract: the row is filled from the front.
-- Assumes nothing.
use Rattle.std.proofs.Common.{◌+◌, get_or}
use Rattle.block.specs.Words.{words_of}
use Rattle.lists.specs.Filling.{Filling}
use Rattle.block.proofs.words.take_words.Given as goal

abbrev pub invariant-loop-i : goal.invariant-loop-i
invariant-loop-i l = Filling (λ k. get_or (words_of l.bytes) (l.from + k) 0) l.initial.row l.i l.row
