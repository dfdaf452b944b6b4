-- `numerals::list::list` meets its contract: turn by turn the parts in front of a place are numbers, and stand in the room.
-- Assumes nothing.
use Rattle.std.proofs.Common.{◌≡◌, length}
use Rattle.numerals.specs.SeveralLaws.{Going}
use Rattle.numerals.proofs.list.list.Given as goal

abbrev pub invariant-loop-count : goal.invariant-loop-count
invariant-loop-count l = Going l.word l.room l.from l.count × (length l.room ≡ length l.initial.room)
