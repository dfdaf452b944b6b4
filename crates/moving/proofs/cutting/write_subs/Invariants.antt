-- `moving::cutting::write_subs` meets its contract: before each turn the sub-letters of the first k new keepers stand.
-- Assumes nothing.
use Rattle.std.proofs.Common.{suc, ◌*◌}
use Rattle.format.specs.Letter.{slot_bytes}
use Rattle.shares.specs.Laying.{Laying}
use Rattle.shares.specs.Words.{row_of}
use Rattle.tray.specs.Tray.{head_for}
use Rattle.moving.proofs.cutting.write_subs.Given as goal

abbrev pub invariant-loop-k : goal.invariant-loop-k
invariant-loop-k l =
    Laying 2048 (λ i. slot_bytes 82 l.from (head_for l.m.told l.m.stamp l.l (suc i)) (row_of l.rows l.l (suc i))) (2048 * l.m.told.order.n) l.k l.tray
