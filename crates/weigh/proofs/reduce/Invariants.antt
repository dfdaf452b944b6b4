-- `weigh::reduce` meets its contract: turn by turn the row's front is the sums' remainders, and the rest is as it was.
-- Assumes nothing.
use Rattle.std.proofs.Common.{ℕ, ◌%◌, ◌≡◌, List, ◌++◌, length, drop, get_or}
use Rattle.lists.specs.Listed.{listed}
use Rattle.weigh.proofs.reduce.Given as goal

abbrev pub remainder : List ℕ → ℕ → ℕ
remainder sums i = get_or sums i 0 % 257

abbrev pub invariant-loop-i : goal.invariant-loop-i
invariant-loop-i l = (length l.row ≡ length l.initial.row) × (l.row ≡ listed (remainder l.sums) l.i ++ drop l.i l.initial.row)
