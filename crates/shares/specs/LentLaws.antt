-- What it says that nothing is wrong with what a cut is lent.
-- Assumes nothing.
use Rattle.std.specs.Prelude.{ℕ, ◌+◌, ◌*◌, ◌≡◌, cond, ◌&&◌, List, length}
use Rattle.std.proofs.Common.{add-one, arith}
use Rattle.lists.specs.Below.{Below}
use Rattle.block.specs.Check.{all_at_most}
use Rattle.block.specs.AtMostLaws.{at_most_below, below_at_most}
use Rattle.header.specs.declared.order.Order.{Order}
use Rattle.header.specs.Passing.{passed, passes, passing, and_left, and_right}
use Rattle.shares.specs.Columns.{columns_of}
use Rattle.shares.specs.ColumnLaws.{length_columns, below_columns}
use Rattle.shares.specs.Lent.{lent_right, lent_number}

module _ (order : Order) (constants random : List ℕ) (each : ℕ) (room : List ℕ) where
  pub record LentFacts : Type 0 where
    pub words_lent : length random ≡ length constants * order.t
    pub room_lent : length room ≡ each * order.n
    pub constants-within : Below 257 constants
    pub words-within : Below 257 random

  pub lent_facts : lent_number order constants random each room ≡ 0 → LentFacts
  unfolding lent_number
  lent_facts e =
      let of_lent = passing (lent_right order (length constants) (length random) each (length room)) _ 3 e in
      let of_words = passing (all_at_most 256 constants && all_at_most 256 random) 0 4 of_lent.1 in
      let lent-right = of_lent.0 in
      record {
        words_lent = search passed;
        room_lent = search passed;
        constants-within = at_most_below 256 constants (and_left (all_at_most 256 constants) (all_at_most 256 random) of_words.0);
        words-within = at_most_below 256 random (and_right (all_at_most 256 constants) (all_at_most 256 random) of_words.0);
      }

  pub facts_lent : LentFacts → lent_number order constants random each room ≡ 0
  unfolding lent_number
  facts_lent h =
      simp (passes, h.words_lent, h.room_lent, below_at_most 256 constants h.constants-within, below_at_most 256 random h.words-within)

  -- with bytes for constants only the random words can be too great
  pub lent_bytes : Below 256 constants
      → lent_number order constants random each room
      ≡ cond (lent_right order (length constants) (length random) each (length room)) (cond (all_at_most 256 random) 0 5) 4
  unfolding lent_number
  lent_bytes bytes = rw (below_at_most 256 constants (λ i h. omega (arith, bytes i h)))

-- the columns that it is laid out in: their length, and that they hold field words
module _ {order : Order} {constants random : List ℕ} {each : ℕ} {room : List ℕ} (h : LentFacts order constants random each room)
    {columns : List ℕ} (laid : columns ≡ columns_of order.t constants random) where
  pub laid_length : length columns ≡ length constants * (order.t + 1)
  laid_length = rw (laid, add-one) (length_columns order.t constants random)

  pub laid_within : Below 257 columns
  laid_within = rw laid (below_columns order.t constants random h.words_lent 257 h.constants-within h.words-within)
