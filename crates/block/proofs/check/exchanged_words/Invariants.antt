-- `block::check::exchanged_words` meets its contract: the row is filled from the front.
-- Assumes nothing.
use Rattle.std.proofs.Common.{get_or}
use Rattle.block.specs.Words.{words_of, exchanged}
use Rattle.lists.specs.Filling.{Filling}
use Rattle.block.proofs.check.exchanged_words.Given as goal

abbrev pub invariant-loop-i : goal.invariant-loop-i
invariant-loop-i l = Filling (λ k. exchanged (get_or (words_of l.block) k 0)) l.initial.word-items l.i l.word-items
