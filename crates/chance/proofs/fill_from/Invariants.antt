-- `chance::fill_from` meets its contract: turn by turn the words of the first i draws are laid over those that stood there.
-- Assumes nothing.
use Rattle.std.proofs.Common.{◌≡◌, length, take}
use Rattle.block.specs.Words.{words_of}
use Rattle.chance.specs.Draw.{words_drawn, Laid, Begun}
use Rattle.chance.proofs.fill_from.Given as goal

abbrev pub invariant-loop-i : goal.invariant-loop-i
invariant-loop-i l =
    (length l.words ≡ length l.initial.words) × Begun l.words l.count
    × Laid l.initial.words l.from (words_drawn (take l.i (words_of l.bytes))) l.words l.count
