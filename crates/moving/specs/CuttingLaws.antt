-- What it says that a cutting is not refused, and what its sub-letters are written from.
-- Assumes nothing.
use Rattle.std.specs.Prelude.{ℕ, suc, ◌+◌, ◌-◌, ◌*◌, ◌<◌, ◌≤◌, ◌≡◌, refl, true, List, ltb, length, take, drop}
use Rattle.std.proofs.Math.Path.{sym}
use Rattle.std.proofs.Common.{ap, ◌∙◌, mul-le-mul, mul-le-mul_left, arith, ltb-true, ne_eqb}
use Rattle.lists.specs.Below.{Below}
use Rattle.lists.specs.Pieces.{pieces, pieces_same}
use Rattle.algebra.specs.Field.{Ops}
use Rattle.block.specs.Check.{all_at_most}
use Rattle.block.specs.AtMostLaws.{at_most_below}
use Rattle.header.specs.FirstOf.{both_right, first_right, first_wrong}
use Rattle.header.specs.Head.{same_head, lawful_head}
use Rattle.header.specs.HeadLaws.{facts_lawful_head, same_head_equal}
use Rattle.header.specs.Order.{lawful_keeper}
use Rattle.header.specs.OrderLaws.{KeeperFacts, lawful_keeper_facts}
use Rattle.header.specs.Passing.{passed, passing}
use Rattle.format.specs.Reading.{Reading, Good, Bad, read_of, shares_of, place_of}
use Rattle.format.specs.Letter.{slot_bytes}
use Rattle.format.specs.GoodWritten.{good_shares}
use Rattle.format.specs.ReadingBounds.{FaultsIn, fault_facts}
use Rattle.tray.specs.Tray.{head_for}
use Rattle.shares.specs.Fills.{fills, refuses}
use Rattle.shares.specs.Laying.{part_is}
use Rattle.shares.specs.Words.{share_rows, row_of, words_number}
use Rattle.shares.specs.WordsLaws.{words_accepted, row_shares}
use Rattle.moving.specs.Cutting.{Cutting}
use Rattle.moving.specs.declared.terms.Move.{Move}
use Rattle.moving.specs.Cutting.{sub_letter, sub_tray, cut_lent, cut_refusal, old_letter, move_cut_number, move_cut_place, MoveCutDone}
use Rattle.moving.specs.Lent.{MoveTerms}
use Rattle.moving.specs.Move.{old_told, move_number}
use Rattle.moving.specs.MoveLaws.{move_terms}

-- of what is told and lent
pub record LentRight (m : Move) (keeper : ℕ) (letter random tray : List ℕ) : Type 0 where
  pub terms : MoveTerms m
  pub of_keeper : KeeperFacts m.old keeper
  pub letter_lent : length letter ≡ 2048
  pub words_lent : length random ≡ m.length * m.told.order.t
  pub tray_lent : length tray ≡ 2048 * m.told.order.n
  pub words-within : Below 257 random

-- and of the letter
pub record OldRight (m : Move) (keeper : ℕ) (letter : List ℕ) : Type 0 where
  pub stamp : ℕ
  pub reads : read_of letter ≡ Good (head_for (old_told m) stamp m.length keeper)
  pub older : stamp < m.stamp

module _ (m : Move) (keeper : ℕ) where
  pub refusal_right : (letter random tray : List ℕ) → cut_refusal m keeper letter random tray ≡ 0 → LentRight m keeper letter random tray
  unfolding cut_refusal
  refusal_right letter random tray e =
      let right = both_right (move_number m (lawful_keeper m.old keeper)) _ e in
      let told = move_terms m (lawful_keeper m.old keeper) right.0 in
      let lent = passing (cut_lent m letter random tray) _ 3 right.1 in
      let words = passing (all_at_most 256 random) 0 4 lent.1 in
      let lengths = lent.0 in
      record {
        terms = told.0;
        of_keeper = lawful_keeper_facts m.old keeper told.1;
        letter_lent = search passed;
        words_lent = search passed;
        tray_lent = search passed;
        words-within = at_most_below 256 random words.0;
      }

  pub old_right : (letter : List ℕ) → old_letter m keeper (read_of letter) ≡ 0 → OldRight m keeper letter
  old_right letter = step (read_of letter) refl (fault_facts letter)
    where
      step : (reading : Reading) → read_of letter ≡ reading → FaultsIn reading → old_letter m keeper reading ≡ 0 → OldRight m keeper letter
      step (Bad number place) read facts e = absurd (facts.numbered e)
      step (Good h) read facts e =
          let told = passing (same_head h (head_for (old_told m) h.stamp m.length keeper)) _ 15 e in
          let newer = passing (ltb h.stamp m.stamp) 0 19 told.1 in
          let same = same_head_equal h (head_for (old_told m) h.stamp m.length keeper) told.0 in
          record { stamp = h.stamp; reads = read ∙ ap Good same; older = ltb-true h.stamp m.stamp newer.0 }

-- what a cutting does once its numbers are known: refused for what is told or lent, or judged by the letter
module _ (m : Move) (keeper : ℕ) (letter random tray : List ℕ) {refused : ℕ} (found : refused ≡ cut_refusal m keeper letter random tray) where
  pub done_refused : {O : Ops} → (refused ≡ 0 → ⊥) → MoveCutDone O m keeper letter random tray (record { number = refused; place = 0 }) tray
  unfolding move_cut_number move_cut_place
  done_refused wrong =
      let other : cut_refusal m keeper letter random tray ≡ 0 → ⊥ = λ e. wrong (found ∙ e) in
      record {
        fills = refuses (found ∙ sym (first_wrong _ _ other)) wrong;
        place_is = rw (ne_eqb _ 0 other);
      }

  module _ (none : refused ≡ 0) where
    pub judged_number : move_cut_number m keeper letter random tray ≡ old_letter m keeper (read_of letter)
    unfolding move_cut_number
    judged_number = first_right _ _ (sym found ∙ none)

    pub judged_place : move_cut_place m keeper letter random tray ≡ place_of (read_of letter)
    unfolding move_cut_place
    judged_place = rw (← found, none)

    module _ {answer : Cutting} (number : answer.number ≡ old_letter m keeper (read_of letter)) (place : answer.place ≡ place_of (read_of letter)) where
      pub done_filled : {O : Ops} {left : List ℕ} → answer.number ≡ 0 → left ≡ sub_tray O m.told m.stamp keeper (shares_of letter m.length) random
          → MoveCutDone O m keeper letter random tray answer left
      done_filled zero full = record { fills = fills (number ∙ sym judged_number) zero full; place_is = place ∙ sym judged_place }

      pub done_judged : {O : Ops} → (answer.number ≡ 0 → ⊥) → MoveCutDone O m keeper letter random tray answer tray
      done_judged wrong = record { fills = refuses (number ∙ sym judged_number) wrong; place_is = place ∙ sym judged_place }

module _ {m : Move} {keeper : ℕ} {letter random tray : List ℕ} (L : LentRight m keeper letter random tray) (R : OldRight m keeper letter) where
  -- the share words of the old letter
  abbrev shares : List ℕ
  shares = shares_of letter m.length

  pub length-shares : length shares ≡ m.length
  length-shares = (good_shares 81 0 letter _ R.reads).0

  pub below_shares : Below 257 shares
  below_shares = (good_shares 81 0 letter _ R.reads).1

  -- they are words that can be cut under the new order
  pub shares-cut_right : (row rows : List ℕ) → row ≡ shares → length rows ≡ m.length * m.told.order.n → words_number m.told.order row random rows ≡ 0
  shares-cut_right row rows same size =
      rw same
      (words_accepted m.told.order shares random rows
      (record {
        of_order = L.terms.of_terms.of_told.of_order;
        length_least = rw length-shares L.terms.of_terms.length_least;
        length_most = rw length-shares L.terms.of_terms.length_most;
        of_lent = record {
          words_lent = rw length-shares L.words_lent;
          room_lent = rw length-shares size;
          constants-within = below_shares;
          words-within = L.words-within;
        };
      }))

  -- rows that are the cut's, each written as a sub-letter, are the tray
  pub rows_tray : (O : Ops) (from : ℕ) (row rows left : List ℕ) → from ≡ keeper → row ≡ shares → rows ≡ share_rows O m.told.order row random
      → left ≡ pieces (λ k. slot_bytes 82 from (head_for m.told m.stamp m.length (suc k)) (row_of rows m.length (suc k))) m.told.order.n
      → left ≡ sub_tray O m.told m.stamp keeper shares random
  unfolding sub_tray sub_letter
  rows_tray O from row rows left named same cut written =
      let cut_of : rows ≡ share_rows O m.told.order shares random = rw same at cut in
      written
      ∙ pieces_same _ _ m.told.order.n
      (λ k h.
      rw (named, cut_of, length-shares)
      (ap (slot_bytes 82 keeper (head_for m.told m.stamp m.length (suc k)))
      (rw length-shares at (row_shares O m.told.order shares random (suc k) (omega arith)))))

-- rows of l words: each of n lies within, and few words are in all of them
pub row_within : (l n k : ℕ) → k < n → l * k + l ≤ l * n
row_within l n k h = omega (arith, mul-le-mul_left l h)

-- the part of them that is row k + 1
pub part_row : (rows : List ℕ) (l k : ℕ) → take (l * k + l - l * k) (drop (l * k) rows) ≡ row_of rows l (suc k)
unfolding row_of
part_row rows l k =
    let e : suc k - 1 ≡ k = omega arith in
    rw e (part_is (l * k) l rows)

pub rows_few : {m : Move} → MoveTerms m → m.length * m.told.order.n ≤ 15232
rows_few terms = mul-le-mul {n₂ = 952} {m₂ = 16} terms.of_terms.length_most terms.of_terms.of_told.of_order.n_most

-- each new keeper's head is lawful
pub new_lawful : {m : Move} → MoveTerms m → (k : ℕ) → k < m.told.order.n → lawful_head (head_for m.told m.stamp m.length (k + 1)) ≡ true
new_lawful {m} terms k h =
    facts_lawful_head (head_for m.told m.stamp m.length (k + 1)) (record { of_terms = terms.of_terms; of_keeper = omega arith })
