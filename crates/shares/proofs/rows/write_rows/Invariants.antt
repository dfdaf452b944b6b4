-- `shares::rows::write_rows` meets its contract: before each turn the rows of the first k keepers stand.
-- Assumes nothing.
use Rattle.std.proofs.Common.{suc, ◌*◌}
use Rattle.field.specs.Modulo.{mod257}
use Rattle.shares.specs.Columns.{values_from}
use Rattle.shares.specs.Laying.{Laying}
use Rattle.shares.proofs.rows.write_rows.Given as goal

abbrev pub invariant-loop-k : goal.invariant-loop-k
invariant-loop-k l = Laying l.l (λ i. values_from mod257 l.columns l.l l.t (suc i) 0) (l.l * l.n) l.k l.rows
