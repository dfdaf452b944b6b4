-- `weigh::carry_word` meets its contract: turn by turn the sum is what the points passed come to.
-- Assumes nothing.
use Rattle.std.proofs.Common.{ℕ, ◌-◌, ◌≡◌, List, get_or}
use Rattle.field.specs.Modulo.{mod257}
use Rattle.weigh.specs.Carried.{partly}
use Rattle.weigh.proofs.carry_word.Given as goal

abbrev pub word : List ℕ → ℕ → ℕ
word words a = get_or words (a - 1) 0

abbrev pub invariant-loop-a : goal.invariant-loop-a
invariant-loop-a l = l.sum ≡ partly mod257 l.points (word l.words) l.x l.a-index
