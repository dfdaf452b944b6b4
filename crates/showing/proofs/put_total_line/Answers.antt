-- `showing::put_total_line` meets its contract: of several words the number is written first.
-- Assumes nothing.
use Rattle.std.proofs.Common.{ne_eqb, rules}
use Rattle.lists.specs.Listed.{listed}
use Rattle.lines.specs.Text.{text}
use Rattle.showing.specs.Lines.{total_line}
use Rattle.showing.proofs.put_total_line.Goals as goal

pub returns-in_default : goal.returns-in_default
unfolding total_line text listed
returns-in_default c =
    rw (c.put-in_default.ensures.written, c.put_decimal.ensures.written, c.new-line.ensures, ne_eqb c.args.count 0 (search rules), ne_eqb c.args.count 1 (search rules))
