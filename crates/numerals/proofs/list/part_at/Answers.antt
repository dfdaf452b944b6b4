-- `numerals::list::part_at` meets its contract: the part is read as a number, or as none.
-- Assumes nothing.
use Rattle.numerals.specs.SeveralLaws.{part_some, part_none}
use Rattle.numerals.proofs.list.part_at.Goals as goal

pub returns-in_err-value : goal.returns-in_err-value
returns-in_err-value c = rw c.from_residual.ensures (part_none c.end_of-end.ensures (rw c.in_err-value.was at c.number.ensures))

pub returns : goal.returns
returns c = part_some c.end_of-end.ensures (rw c.in_ok-value.was at c.number.ensures)
