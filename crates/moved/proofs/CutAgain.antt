-- The cutting's promise, of a good old letter with a stamp below the new one: it answers 0, and leaves the sub-letters.
-- Assumes nothing.
use Rattle.std.specs.Prelude.{ℕ, ◌*◌, ◌<◌, ◌≡◌, List, length, get_or}
use Rattle.std.proofs.Math.Path.{refl}
use Rattle.std.proofs.Common.{◌∙◌, arith}
use borrow.Author.Tests.{eq-eqb, lt-ltb}
use Rattle.algebra.specs.Field.{Ops}
use Rattle.block.specs.AtMostLaws.{below_at_most}
use Rattle.header.specs.HeadLaws.{equal_same_head}
use Rattle.header.specs.TermsLaws.{lawful_terms_facts, facts_terms}
use Rattle.format.specs.Reading.{Good, read_of, shares_of}
use Rattle.format.specs.GoodSlot.{good_slot}
use Rattle.shares.specs.Fills.{filled}
use Rattle.tray.specs.Tray.{head_for, slot_of}
use Rattle.cut.specs.Cut.{cut_tray}
use Rattle.cut.specs.LetterField.{LetterField}
use Rattle.cut.specs.OneCut.{OneCut, read_cut}
use Rattle.moving.specs.Cutting.{Cutting}
use Rattle.moving.specs.declared.terms.Move.{Move}
use Rattle.moving.specs.Cutting.{sub_tray, cut_refusal, move_cut_number, move_cut_place, MoveCutDone}
use Rattle.moving.specs.Move.{old_told, move_number}
use Rattle.moved.proofs.Handed.{old_keeper}
use Rattle.moved.specs.Moved.{OneMove}
use Rattle.moved.specs.TheMove.{held_in}

module _ {O : Ops} (F : LetterField O) {m : Move} {froms : List ℕ} {shares random : ℕ → List ℕ} (M : OneMove O m froms shares random)
    (k : ℕ) (l : k < length froms) (tray : List ℕ) (room : length tray ≡ 2048 * m.told.order.n)
    (letter : List ℕ) (stamp : ℕ) (read : read_of letter ≡ Good (head_for (old_told m) stamp m.length (get_or froms k 0))) where
  cut_not_refused : cut_refusal m (get_or froms k 0) letter (random k) tray ≡ 0
  unfolding cut_refusal move_number
  cut_not_refused =
      rw (
        M.old_lawful,
        M.keepers k l,
        facts_terms m.told m.stamp m.length (lawful_terms_facts m.told m.stamp m.length M.told_lawful M.length_lawful M.stamp_lawful),
        eq-eqb (length letter) 2048 (good_slot 81 0 letter _ read).size,
        eq-eqb (length (random k)) (m.length * m.told.order.t) (M.random_size k l),
        eq-eqb (length tray) (2048 * m.told.order.n) room,
        below_at_most 256 (random k) (λ i h. omega (arith, F.most, M.random_below k l i h)),
      )

  module _ (later : stamp < m.stamp) where
    cut_number_lem : move_cut_number m (get_or froms k 0) letter (random k) tray ≡ 0
    unfolding move_cut_number
    cut_number_lem =
        let h = head_for (old_told m) stamp m.length (get_or froms k 0) in
        rw (cut_not_refused, read, equal_same_head h h refl, lt-ltb stamp m.stamp later)

    cut-place : move_cut_place m (get_or froms k 0) letter (random k) tray ≡ 0
    unfolding move_cut_place
    cut-place = rw (cut_not_refused, read)

    -- nothing is refused, and the sub-letters of its share words are left
    pub cut_again_done : {left : List ℕ} {answer : Cutting} → MoveCutDone O m (get_or froms k 0) letter (random k) tray answer left
        → (answer ≡ record { number = 0; place = 0 }) × (left ≡ sub_tray O m.told m.stamp (get_or froms k 0) (shares_of letter m.length) (random k))
    cut_again_done D =
        let number = D.fills.answers ∙ cut_number_lem in
        let place = D.place_is ∙ cut-place in
        (λ i. record { number = number i; place = place i }, filled D.fills cut_number_lem)

-- the letters of one cut are such letters: each old keeper's cutting leaves what the move is made of
module _ {O : Ops} (F : LetterField O) {m : Move} {stamp : ℕ} {secret first : List ℕ} (C : OneCut O (old_told m) stamp secret first) (s : length secret ≡ m.length)
    {froms : List ℕ} {random : ℕ → List ℕ} (M : OneMove O m froms (held_in (cut_tray O (old_told m) stamp secret first) m.length froms) random) where
  pub cut-letter_done : stamp < m.stamp → (k : ℕ) → k < length froms → {tray left : List ℕ} {answer : Cutting} → length tray ≡ 2048 * m.told.order.n
      → MoveCutDone O m (get_or froms k 0) (slot_of (cut_tray O (old_told m) stamp secret first) (get_or froms k 0)) (random k) tray answer left
      → (answer ≡ record { number = 0; place = 0 })
      × (left ≡ sub_tray O m.told m.stamp (get_or froms k 0) (held_in (cut_tray O (old_told m) stamp secret first) m.length froms k) (random k))
  cut-letter_done later k l {tray} room D =
      cut_again_done F M k l tray room _ stamp (rw s at (read_cut F C (get_or froms k 0) (old_keeper F M k l))) later D
