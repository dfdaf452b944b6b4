-- `chance::fill` meets its contract: turn by turn so many words are there, each at most 256.
-- Assumes nothing.
use Rattle.std.proofs.Common.{◌≡◌, length}
use Rattle.chance.specs.Draw.{Begun}
use Rattle.chance.proofs.fill.Given as goal

abbrev pub invariant-calls : goal.invariant-calls
invariant-calls l = (length l.words ≡ length l.initial.words) × Begun l.words l.count
