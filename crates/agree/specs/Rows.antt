-- The rows of words that the agreement reads: 952 for each of 16 keepers.
-- Assumes nothing.
use Rattle.std.specs.Prelude.{ℕ, ◌+◌, ◌-◌, ◌*◌, ◌<◌, ◌≡◌, List, length}
use Rattle.std.proofs.Common.{arith}
use Rattle.lists.specs.Below.{Below, below_any}
use Rattle.weigh.specs.Weigh.{row_word}

pub record Rows (rows : List ℕ) : Type 0 where
  pub whole : length rows ≡ 15232
  pub words : Below 257 rows

pub row_word_lt : {rows : List ℕ} → Rows rows → (x j : ℕ) → row_word rows x j < 257
row_word_lt {rows} r x j = below_any 257 rows (omega arith) r.words (952 * (x - 1) + j)
