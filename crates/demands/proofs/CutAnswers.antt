-- A cut answers 0 exactly where it is one cut with room to fill, and leaves there what that cut makes: letters, or rows.
-- Assumes nothing.
use Rattle.std.specs.Prelude.{ℕ, ◌*◌, ◌≡◌, true, List, length}
use Rattle.std.proofs.Common.{sym, ◌∙◌}
use Rattle.field.specs.Modulo.{mod257}
use Rattle.header.specs.declared.order.Order.{Order}
use Rattle.header.specs.declared.told.Told.{Told}
use Rattle.header.specs.Order.{lawful_order}
use Rattle.header.specs.OrderLaws.{lawful_order_facts, facts_lawful_order}
use Rattle.header.specs.Passing.{passed, passes}
use Rattle.header.specs.Terms.{lawful_length}
use Rattle.header.specs.TermsLaws.{lawful_terms_facts, facts_lawful_terms}
use Rattle.shares.specs.Fills.{filled}
use Rattle.shares.specs.LentLaws.{LentFacts}
use Rattle.shares.specs.OneWords.{OneWords}
use Rattle.shares.specs.Words.{share_rows, WordsDone}
use Rattle.shares.specs.WordsLaws.{accepted_words, words_accepted}
use Rattle.cut.specs.Cut.{cut_tray, CutDone}
use Rattle.cut.specs.CutLaws.{accepted_facts, facts_accepted}
use Rattle.cut.specs.OneCut.{OneCut}

-- what is lent to a cut that is not refused is what one cut is given
module _ (order : Order) (constants random : List ℕ) (each : ℕ) (room : List ℕ) where
  lent_one : lawful_order order ≡ true → lawful_length (length constants) ≡ true → LentFacts order constants random each room → OneWords mod257 order constants random
  lent_one order_lawful length_lawful h = record {
    order_lawful = order_lawful;
    length_lawful = length_lawful;
    constants_below = h.constants-within;
    random_size = h.words_lent;
    random_below = h.words-within;
  }

  one_lent : OneWords mod257 order constants random → length room ≡ each * order.n → LentFacts order constants random each room
  one_lent W s = record { words_lent = W.random_size; room_lent = s; constants-within = W.constants_below; words-within = W.random_below }

module _ (told : Told) (stamp : ℕ) (secret random tray : List ℕ) where
  -- a cut that answers 0 is one cut, and leaves its tray
  pub zero_one_cut : {left : List ℕ} → CutDone mod257 told stamp secret random tray 0 left
      → OneCut mod257 told stamp secret random × (left ≡ cut_tray mod257 told stamp secret random)
  zero_one_cut D =
      let h = accepted_facts told stamp secret random tray (sym D.answers) in
      let lawful = facts_lawful_terms told stamp (length secret) h.of_terms in (
        record {
          of_words = lent_one told.order secret random 2048 tray (facts_lawful_order told.order h.of_terms.of_told.of_order) lawful.1 h.of_lent;
          told_lawful = lawful.0;
          stamp_lawful = lawful.2;
        },
        filled D (sym D.answers),
      )

  -- one cut, with a tray to fill, answers 0 and leaves its tray
  pub one_cut-zero : {number : ℕ} {left : List ℕ} → OneCut mod257 told stamp secret random → length tray ≡ 2048 * told.order.n
      → CutDone mod257 told stamp secret random tray number left → (number ≡ 0) × (left ≡ cut_tray mod257 told stamp secret random)
  one_cut-zero C s D =
      let W = C.of_words in
      let e = facts_accepted told stamp secret random tray (record {
        of_terms = lawful_terms_facts told stamp (length secret) C.told_lawful W.length_lawful C.stamp_lawful;
        of_lent = one_lent told.order secret random 2048 tray W s;
      }) in
      (D.answers ∙ e, filled D e)

module _ (order : Order) (words random rows : List ℕ) where
  -- a cut of words that answers 0 is one cut, and leaves its rows
  pub zero_one_words : {left : List ℕ} → WordsDone mod257 order words random rows 0 left
      → OneWords mod257 order words random × (left ≡ share_rows mod257 order words random)
  zero_one_words D =
      let h = accepted_words order words random rows (sym D.answers) in
      (lent_one order words random (length words) rows (facts_lawful_order order h.of_order) (simp (passes, h.length_least, h.length_most)) h.of_lent, filled D (sym D.answers))

  -- one cut of words, with rows to fill, answers 0 and leaves its rows
  pub one_words-zero : {number : ℕ} {left : List ℕ} → OneWords mod257 order words random → length rows ≡ length words * order.n
      → WordsDone mod257 order words random rows number left → (number ≡ 0) × (left ≡ share_rows mod257 order words random)
  one_words-zero W s D =
      let length_right = W.length_lawful in
      let e = words_accepted order words random rows (record {
        of_order = lawful_order_facts order W.order_lawful;
        length_least = search passed;
        length_most = search passed;
        of_lent = one_lent order words random (length words) rows W s;
      }) in
      (D.answers ∙ e, filled D e)
