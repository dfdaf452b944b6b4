-- `weighing::filling::weigh_rows` meets its contract: turn by turn the sums' front is the plain sums over the sub-letters passed; at the end they are
-- reduced, once.
-- Assumes nothing.
use Rattle.std.proofs.Common.{◌≡◌, length, take}
use Rattle.weigh.specs.PlainRows.{plain_row}
use Rattle.weighing.specs.WeighedRows.{sub_row}
use Rattle.weighing.proofs.filling.weigh_rows.Given as goal

abbrev pub invariant-loop-k : goal.invariant-loop-k
invariant-loop-k l = (length l.row ≡ l.size) × (length l.sums ≡ 952) × (take l.size l.sums ≡ plain_row l.froms (sub_row l.letters l.size) 0 l.size l.k)
