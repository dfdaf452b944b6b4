-- `shares::columns::lay_out` meets its contract: before each turn the first j + 1 columns stand.
-- Assumes nothing.
use Rattle.std.proofs.Common.{◌+◌, ◌*◌}
use Rattle.shares.specs.Columns.{column_of}
use Rattle.shares.specs.Laying.{Laying}
use Rattle.shares.proofs.columns.lay_out.Given as goal

abbrev pub invariant-loop-j : goal.invariant-loop-j
invariant-loop-j l = Laying l.l (column_of l.t l.constants l.random) (l.l * (l.t + 1)) (l.j + 1) l.columns
