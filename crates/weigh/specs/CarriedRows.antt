-- The rows of keepers, a row for each of the points that name them: mixed by the points' factors, they are the carried words.
-- Assumes nothing.
use Rattle.std.specs.Prelude.{ℕ, ◌+◌, ◌-◌, ◌*◌, ◌≤◌, ◌<◌, ◌≡◌, List, length, get_or, take, drop}
use Rattle.std.proofs.Common.{◌∙◌, arith, length-drop, length-take-le, get_or-take, get_or-drop}
use Rattle.lists.specs.Below.{below_take, below_drop}
use Rattle.lists.specs.Listed.{listed, listed_same}
use Rattle.algebra.specs.Combine.{factors}
use Rattle.algebra.specs.Mixed.{mixed, mixed_same}
use Rattle.field.specs.Modulo.{mod257}
use Rattle.weigh.specs.Carried.{mixed-carried}
use Rattle.weigh.specs.PlainRows.{Rows}
use Rattle.weigh.specs.Weigh.{carried, row_word, Carriage}

-- where the row of the keeper at place k begins
abbrev pub row_at : List ℕ → ℕ → ℕ
row_at points k = 952 * (get_or points k 0 - 1)

-- its first n words
abbrev pub row_front : List ℕ → List ℕ → ℕ → ℕ → List ℕ
row_front points rows n k = take n (drop (row_at points k) rows)

module _ {points rows row : List ℕ} (given : Carriage points rows row) where
  pub row_end : (k : ℕ) → k < length points → row_at points k + length row ≤ length rows
  row_end k h = omega (arith, given.keepers k h, given.whole, given.room)

  pub carriage_rows : Rows points (row_front points rows (length row)) (length row)
  carriage_rows = record {
    few = given.few;
    room = given.room;
    size = λ k h. length-take-le (length row) (drop (row_at points k) rows) (omega (arith, row_end k h, length-drop (row_at points k) rows));
    words = λ k h. below_take 257 (length row) (drop (row_at points k) rows) (below_drop 257 (row_at points k) rows given.words);
  }

  pub row_carried : (x : ℕ) → listed (λ i. mixed mod257 (factors mod257 points x) (length points) (λ k. get_or (row_front points rows (length row) k) i 0)) (length row)
      ≡ listed (λ i. carried mod257 points (λ a. row_word rows a i) x) (length row)
  row_carried x =
      listed_same _ _ (length row)
      (λ i l. mixed_same mod257 (factors mod257 points x) (length points) _ (λ k. row_word rows (get_or points k 0) i) (λ k h. rw (get_or-take, get_or-drop))
      ∙ mixed-carried mod257 points (λ a. row_word rows a i) x)
