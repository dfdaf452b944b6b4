-- `sub_letters::judging::judge_each` meets its contract: the rule refuses none of those passed.
-- Assumes nothing.
use Rattle.std.proofs.Common.{ℕ, ◌<◌, Ok}
use Rattle.sub_letters.proofs.judging.judge_each.Given as goal

abbrev pub invariant-loop-k : goal.invariant-loop-k
invariant-loop-k g l = (j : ℕ) → j < l.k → goal.F-post g l.rule j (Ok tt)
