-- `numerals::order::order` meets its contract: the word is cut at its first comma, the front is read as a number, and the rest as two.
-- Assumes nothing.
use Rattle.std.proofs.Common.{◌+◌, sym, ◌∙◌}
use Rattle.numerals.specs.OrderLaws.{to_the_end, comma_some, comma_within, comma_none, order_none, order_no_front, order_no_back, order_read}
use Rattle.numerals.proofs.order.order.Goals as goal

pub returns-in_err-at : goal.returns-in_err-at
returns-in_err-at c = rw c.from_residual.ensures (order_none (comma_none (sym c.comma.ensures ∙ c.in_err-at.was)))

pub returns-in_err-t : goal.returns-in_err-t
returns-in_err-t c =
    let first = comma_some (sym c.comma.ensures ∙ c.in_ok-at.was) in
    rw c.from_residual-in_err-t.ensures (order_no_front first (rw c.in_err-t.was at c.number.ensures))

pub returns-in_err-f : goal.returns-in_err-f
returns-in_err-f c =
    let first = comma_some (sym c.comma.ensures ∙ c.in_ok-at.was) in
    let behind = rw (c.in_err-f.was, to_the_end (c.in_ok-at.at + 1) c.args.word.now) at c.two_numbers.ensures in
    rw c.from_residual-in_err-f.ensures (order_no_back first behind)

pub returns : goal.returns
returns c =
    let word = c.args.word.now in
    let found = sym c.comma.ensures ∙ c.in_ok-at.was in
    let behind = rw (c.in_ok-f.was, to_the_end (c.in_ok-at.at + 1) word) at c.two_numbers.ensures in
    order_read (comma_some found) (comma_within word c.in_ok-at.at found) (rw c.in_ok-t.was at c.number.ensures) behind
