-- `exports::comparing::cs_compare` meets its contract: what is counted are the words of a tray.
-- Assumes nothing.
use Rattle.std.proofs.Common.{arith}
use Rattle.compare.proofs.CompareLaws.{count_most}
use Rattle.exports.proofs.comparing.cs_compare.Goals as goal

pub overflow_cast-result : goal.overflow_cast-result
overflow_cast-result c = omega (arith, count_most c.in-Ok.ensures)

pub overflow_cast-result-in-Err-TooMany : goal.overflow_cast-result-in-Err-TooMany
overflow_cast-result-in-Err-TooMany c =
    let done = rw c.in-Err-TooMany.field-0-is at c.in-Err-TooMany.ensures in
    omega (arith, count_most done)
