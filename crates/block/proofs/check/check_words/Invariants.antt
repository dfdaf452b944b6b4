-- `block::check::check_words` meets its contract: turn by turn the sums are those of the words passed, and minus them are the check words.
-- Assumes nothing.
use Rattle.std.proofs.Common.{ℕ, ◌*◌, ◌%◌, ◌^◌, ◌≤◌, ◌≡◌, List, get_or}
use Rattle.lists.specs.Total.{total}
use Rattle.block.proofs.check.check_words.Given as goal

-- What i turns have made: the sums of the first i of the row, their weights reduced modulo 257, and the bounds that keep them below 2^32.
pub record Summed (row : List ℕ) (plain weighted i : ℕ) : Type 0 where
  pub plain_is : plain ≡ total (λ k. get_or row k 0) i
  pub weighted_is : weighted ≡ total (λ k. get_or row k 0 * (3 ^ k % 257)) i
  pub plain_le : plain ≤ i * 65535
  pub weighted_le : weighted ≤ i * (65535 * 256)

abbrev pub invariant-loop-i : goal.invariant-loop-i
invariant-loop-i l = Summed l.row l.plain l.weighted l.i
