-- `saying::table::entry` meets its contract: what is left is the text from the line on, one line a turn.
-- Assumes nothing.
use Rattle.std.proofs.Common.{◌≡◌}
use Rattle.saying.specs.Table.{rest_at}
use Rattle.saying.proofs.table.entry.Given as goal

abbrev pub invariant-loop : goal.invariant-loop
invariant-loop l = l.left ≡ rest_at l.counter l.text
