-- `shares::rows::share_row` meets its contract: before each turn the row holds the values of the powers from j on.
-- Assumes nothing.
use Rattle.std.proofs.Common.{◌≡◌}
use Rattle.field.specs.Modulo.{mod257}
use Rattle.shares.specs.Columns.{values_from}
use Rattle.shares.proofs.rows.share_row.Given as goal

abbrev pub invariant-loop-j : goal.invariant-loop-j
invariant-loop-j l = l.row ≡ values_from mod257 l.columns l.l l.t l.x l.j
