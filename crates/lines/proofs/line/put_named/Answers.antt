-- `lines::line::put_named` meets its contract: the number is written right behind its name.
-- Assumes nothing.
use Rattle.std.proofs.Common.{arith}
use Rattle.lines.specs.DecimalLaws.{length-decimal}
use Rattle.lines.specs.Written.{written_more}
use Rattle.lines.proofs.line.put_named.Goals as goal

pub returns : goal.returns
returns c =
    let short = length-decimal 9 c.args.n (omega arith) in
    record { written = written_more (omega arith) c.put-next.ensures c.put_decimal.ensures; upper_bound = omega arith }
