-- `numerals::list::list` meets its contract: turn by turn the parts in front of a place are numbers, and stand in the room.
-- Assumes nothing.
use Rattle.std.proofs.Common.{arith, rules}
use Rattle.numerals.specs.SeveralLaws.{part_of, going_more, list_none, list_full, list_wrong, list_last}
use Rattle.numerals.proofs.list.list.Goals as goal

pub returns-in_err-part : goal.returns-in_err-part
returns-in_err-part c = rw c.from_residual.ensures (list_none (list_wrong c.loop-count.invariant.0 _ (rw c.in_err-part.was at c.part_at.ensures)))

pub returns-then-part-word : goal.returns-then-part-word
returns-then-part-word c =
    let inv = c.loop-count.invariant in
    let last = list_last inv.0 (rw c.in_ok-part.was at c.part_at.ensures) (omega arith) c.if-part-word.true in
    rw inv.1 at last

pub overflow_add-from : goal.overflow_add-from
overflow_add-from c = omega (arith, (part_of (rw c.in_ok-part.was at c.part_at.ensures)).within)

pub loop-count-preserved : goal.loop-count-preserved
loop-count-preserved c =
    let read = rw c.in_ok-part.was at c.part_at.ensures in
    let more = going_more c.loop-count.invariant.0 read (omega arith) in
    (more (omega (arith, (part_of read).within)), search rules)

pub returns : goal.returns
returns c =
    let inv = c.loop-count.invariant in
    list_none (rw inv.1 at (list_full inv.0 (omega arith)))
