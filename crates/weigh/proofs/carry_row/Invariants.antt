-- `weigh::carry_row` meets its contract: turn by turn the sums' front is the plain sums over the points passed; at the end they are reduced, once.
-- Assumes nothing.
use Rattle.std.proofs.Common.{◌≡◌, length, take}
use Rattle.weigh.specs.CarriedRows.{row_front}
use Rattle.weigh.specs.PlainRows.{plain_row}
use Rattle.weigh.proofs.carry_row.Given as goal

abbrev pub invariant-loop-a : goal.invariant-loop-a
invariant-loop-a l = (length l.sums ≡ 952) × (take l.size l.sums ≡ plain_row l.points (row_front l.points l.rows l.size) l.x l.size l.a-index)
