-- `lines::text::put_decimal` meets its contract: a number of one digit is one store; of any other, what stands before the last digit is
-- written first, by a call at a tenth of the number.
-- Assumes nothing.
use Rattle.std.proofs.Common.{ℕ, ◌+◌, ◌/◌, ◌%◌, ◌^◌, ◌<◌, ◌≤◌, length, arith}
use Rattle.lines.specs.DecimalLaws.{decimal_one, decimal_more, length-decimal}
use Rattle.lines.specs.Text.{decimal}
use Rattle.lines.specs.Written.{written_none, written_store}
use Rattle.lines.proofs.text.+put_decimal.Goals as goal

-- a tenth of a number below 2^32 leaves room for one digit more
room : (n : ℕ) → n < 2 ^ 32 → length (decimal (n / 10)) ≤ 9
room n h = length-decimal 8 (n / 10) (omega arith)

pub bounds-out-last : goal.bounds-out-last
bounds-out-last t c = omega (arith, room c.args.n (omega arith))

pub returns-then-n-lt10 : goal.returns-then-n-lt10
returns-then-n-lt10 t c =
    rw (c.digit.ensures, decimal_one c.args.n (omega arith))
    (written_store (48 + c.args.n) (omega arith) (written_none c.args.out.now c.args.at))

pub returns-else-n-lt10 : goal.returns-else-n-lt10
returns-else-n-lt10 t c =
    rw (c.digit-else-n-lt10.ensures, decimal_more c.args.n (omega arith) (omega arith))
    (written_store (48 + c.args.n % 10) (omega (arith, room c.args.n (omega arith))) c.put_decimal-last.ensures)
