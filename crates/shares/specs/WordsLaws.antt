-- What it says that a cut of words is not refused, and what stands in its rows.
-- Assumes nothing.
use Rattle.std.specs.Prelude.{ℕ, suc, ◌-◌, ◌*◌, ◌≤◌, ◌≡◌, List, length}
use Rattle.std.proofs.Common.{◌∙◌, arith}
use Rattle.lists.specs.Pieces.{pieces, part-pieces, pieces_same}
use Rattle.algebra.specs.Field.{Ops}
use Rattle.header.specs.declared.order.Order.{Order}
use Rattle.header.specs.Order.{lawful_order}
use Rattle.header.specs.OrderLaws.{OrderFacts, KeeperFacts, lawful_order_facts, facts_lawful_order}
use Rattle.header.specs.Passing.{passed, passes, passing}
use Rattle.header.specs.Terms.{lawful_length}
use Rattle.shares.specs.Columns.{columns_of, values_from}
use Rattle.shares.specs.ColumnLaws.{values_shares}
use Rattle.shares.specs.LentLaws.{LentFacts, lent_facts, facts_lent}
use Rattle.shares.specs.Shares.{share_words}
use Rattle.shares.specs.ShareWords.{length-share_words}
use Rattle.shares.specs.Words.{share_rows, row_of, words_number}

module _ (order : Order) (constants random rows : List ℕ) where
  pub record WordsFacts : Type 0 where
    pub of_order : OrderFacts order
    pub length_least : 1 ≤ length constants
    pub length_most : length constants ≤ 952
    pub of_lent : LentFacts order constants random (length constants) rows

  pub accepted_words : words_number order constants random rows ≡ 0 → WordsFacts
  unfolding words_number
  accepted_words e =
      let of_order = passing (lawful_order order) _ 0 e in
      let of_length = passing (lawful_length (length constants)) _ 1 of_order.1 in
      let length_right = of_length.0 in
      record {
        of_order = lawful_order_facts order of_order.0;
        length_least = search passed;
        length_most = search passed;
        of_lent = lent_facts order constants random (length constants) rows of_length.1;
      }

  pub words_accepted : WordsFacts → words_number order constants random rows ≡ 0
  unfolding words_number
  words_accepted h =
      simp (passes, facts_lawful_order order h.of_order, h.length_least, h.length_most, facts_lent order constants random (length constants) rows h.of_lent)

-- rows filled with the values of the columns that the words are laid out in are the cut's
pub laid_rows : (O : Ops) (order : Order) (constants random columns left : List ℕ) → columns ≡ columns_of order.t constants random → length random ≡ length constants * order.t
    → left ≡ pieces (λ k. values_from O columns (length constants) order.t (suc k) 0) order.n → left ≡ share_rows O order constants random
unfolding share_rows
laid_rows O order constants random columns left laid size written =
    written ∙ pieces_same _ _ order.n (λ k h. rw laid (values_shares order.t constants random size O (suc k)))

-- each keeper's row has its share words
pub row_shares : (O : Ops) (order : Order) (constants random : List ℕ) (x : ℕ) → KeeperFacts order x
    → row_of (share_rows O order constants random) (length constants) x ≡ share_words O order.t x constants random
unfolding share_rows row_of
row_shares O order constants random x k =
    let e : suc (x - 1) ≡ x = omega arith in
    part-pieces (length constants) (λ k. share_words O order.t (suc k) constants random) order.n
    (λ k h. length-share_words O order.t (suc k) constants random) (x - 1) (omega arith)
    ∙ rw e
