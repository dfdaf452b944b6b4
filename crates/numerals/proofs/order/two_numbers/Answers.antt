-- `numerals::order::two_numbers` meets its contract: the word is cut at its first comma, and each part is read as a number.
-- Assumes nothing.
use Rattle.std.proofs.Common.{◌+◌, sym, ◌∙◌}
use Rattle.numerals.specs.OrderLaws.{to_the_end, comma_some, comma_within, comma_none, pair_none, pair_no_front, pair_no_back, pair_read}
use Rattle.numerals.proofs.order.two_numbers.Goals as goal

pub returns-in_err-at : goal.returns-in_err-at
returns-in_err-at c = rw c.from_residual.ensures (pair_none (comma_none (sym c.comma.ensures ∙ c.in_err-at.was)))

pub returns-in_err-f : goal.returns-in_err-f
returns-in_err-f c =
    let first = comma_some (sym c.comma.ensures ∙ c.in_ok-at.was) in
    rw c.from_residual-in_err-f.ensures (pair_no_front first (rw c.in_err-f.was at c.number.ensures))

pub returns-in_err-n : goal.returns-in_err-n
returns-in_err-n c =
    let first = comma_some (sym c.comma.ensures ∙ c.in_ok-at.was) in
    rw c.from_residual-in_err-n.ensures (pair_no_back first (rw (c.in_err-n.was, to_the_end (c.in_ok-at.at + 1) c.args.word.now) at c.number-2.ensures))

pub returns : goal.returns
returns c =
    let word = c.args.word.now in
    let found = sym c.comma.ensures ∙ c.in_ok-at.was in
    let back = rw (c.in_ok-n.was, to_the_end (c.in_ok-at.at + 1) word) at c.number-2.ensures in
    pair_read (comma_some found) (comma_within word c.in_ok-at.at found) (rw c.in_ok-f.was at c.number.ensures) back
