-- `pick::go_down` meets its contract, rank by rank. The measure is the bound.
-- Assumes nothing.
use Rattle.std.proofs.Common.{ℕ, ◌+◌, ◌≤◌, ◌<◌}
use Rattle.agree.specs.Rows.{Rows}
use Rattle.field.specs.Modulo.{mod257}
use Rattle.pick.proofs.Down.{Passed}
use Rattle.pick.specs.Ranks.{NextOf}
use Rattle.refusals.specs.Numbers.{code}
use Rattle.pick.proofs.go_down.Given as goal

abbrev pub invariant-loop-rank : goal.invariant-loop-rank
invariant-loop-rank l = record {
  passed : (next : ℕ) → NextOf l.ranks l.told.order.n (l.told.order.t + l.told.order.f + 1) l.bound next → Passed mod257 l.told l.tray next (code l.refusal) l.top;
  rows : Rows l.rows;
  small : l.bound ≤ 4398046511104;
  top_small : l.top < 4398046511104;
}

abbrev pub decreases-loop-rank : goal.decreases-loop-rank
decreases-loop-rank l = l.bound
