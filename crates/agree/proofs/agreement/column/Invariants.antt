-- `agree::agreement::column` meets its contract: the words so far are those of the first k rows.
-- Assumes nothing.
use Rattle.std.proofs.Common.{ℕ, ◌+◌, ◌*◌, ◌≡◌, List, ◌++◌, get_or, drop}
use Rattle.lists.specs.Listed.{listed}
use Rattle.agree.proofs.agreement.column.Given as goal

-- word i of the row at k
abbrev pub at : List ℕ → ℕ → ℕ → ℕ
at rows i k = get_or rows (952 * k + i) 0

abbrev pub invariant-loop-k : goal.invariant-loop-k
invariant-loop-k l = l.words ≡ listed (at l.rows l.i) l.k ++ drop l.k l.initial.words
