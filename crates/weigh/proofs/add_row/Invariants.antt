-- `weigh::add_row` meets its contract: turn by turn the sums' front has the row's words times the factor added, and the rest is as it was.
-- Assumes nothing.
use Rattle.std.proofs.Common.{ℕ, ◌+◌, ◌*◌, ◌≡◌, List, ◌++◌, length, drop, get_or}
use Rattle.lists.specs.Listed.{listed}
use Rattle.weigh.proofs.add_row.Given as goal

abbrev pub added : List ℕ → List ℕ → ℕ → ℕ → ℕ
added sums row factor i = get_or sums i 0 + get_or row i 0 * factor

abbrev pub invariant-loop-i : goal.invariant-loop-i
invariant-loop-i l = (length l.sums ≡ length l.initial.sums) × (l.sums ≡ listed (added l.initial.sums l.row l.factor) l.i ++ drop l.i l.initial.sums)
