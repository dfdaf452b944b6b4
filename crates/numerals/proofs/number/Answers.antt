-- `numerals::number` meets its contract: turn by turn the bytes passed are digits and say the value, and ten digits fit in 64 bits.
-- Assumes nothing.
use Rattle.std.proofs.Common.{sym, ◌∙◌, refl, ◌≤◌, length, rules}
use Rattle.numerals.specs.NumeralLaws.{reading_more, reading_stopped, read_fitting, read_none}
use Rattle.numerals.proofs.number.Goals as goal

pub returns-then-not-is_ascii_digit : goal.returns-then-not-is_ascii_digit
returns-then-not-is_ascii_digit c =
    read_none (reading_stopped c.loop-byte.invariant c.loop-byte-test.true (sym c.is_ascii_digit.ensures.value ∙ c.if-not-is_ascii_digit.true))

pub loop-byte-preserved : goal.loop-byte-preserved
loop-byte-preserved c =
    rw c.from.ensures
    (reading_more c.loop-byte.invariant c.loop-byte-test.true (sym c.is_ascii_digit.ensures.value ∙ c.if-not-is_ascii_digit.false) refl)

pub returns : goal.returns
returns c =
    let fits : (1 ≤ length c.args.word.now) × (length c.args.word.now ≤ 10) = search rules in
    rw c.ok.ensures.value (read_fitting c.loop-byte.invariant c.try_from.result c.loop-byte-test.false fits c.try_from.ensures)
