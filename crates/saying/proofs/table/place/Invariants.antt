-- `saying::table::place` meets its contract: one line a turn, none of those passed is the word.
-- Assumes nothing.
use Rattle.std.proofs.Common.{ℕ, ◌<◌, ◌≡◌}
use Rattle.saying.specs.Table.{rest_at, line_at}
use Rattle.saying.proofs.table.place.Given as goal

abbrev pub invariant-loop-number : goal.invariant-loop-number
invariant-loop-number l =
    (l.left ≡ rest_at l.number l.text) × ((k : ℕ) → k < l.number → line_at k l.text ≡ l.word → ⊥)
