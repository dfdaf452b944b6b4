-- The weighing's promise, of what a new keeper is handed by one move: it answers 0, and leaves the keeper's slot of the new tray.
-- Assumes nothing.
use Rattle.std.specs.Prelude.{ℕ, zero, suc, ◌+◌, ◌*◌, ◌<◌, ◌≡◌, refl, true, List}
use Rattle.std.proofs.Common.{sym, ◌∙◌, arith}
use Rattle.std.proofs.Math.Path.{ap}
use Rattle.std.proofs.Math.Dec.{eqb}
use Rattle.std.proofs.Math.ListN.{length}
use borrow.Author.Tests.{eq-eqb}
use Rattle.lists.specs.AllTo.{all_to}
use Rattle.lists.specs.AllToLaws.{all_to_holds}
use Rattle.lists.specs.Member.{In, in_every}
use Rattle.algebra.specs.Field.{Ops}
use Rattle.header.specs.HeadLaws.{equal_same_head}
use Rattle.header.specs.Order.{lawful_keeper}
use Rattle.header.specs.OrderLaws.{KeeperFacts, facts_lawful_keeper}
use Rattle.header.specs.TermsLaws.{lawful_terms_facts, facts_terms}
use Rattle.format.specs.GoodSlot.{good_slot}
use Rattle.format.specs.Letter.{blocks_for}
use Rattle.format.specs.Reading.{number_of}
use Rattle.tray.specs.Tray.{head_for, slot_of}
use Rattle.cut.specs.Cut.{cut_tray}
use Rattle.cut.specs.LetterField.{LetterField}
use Rattle.cut.specs.OneCut.{slot-cut}
use Rattle.moving.specs.declared.terms.Move.{Move}
use Rattle.moving.specs.Move.{move_number}
use Rattle.sub_letters.specs.Judging.{Weighing}
use Rattle.sub_letters.specs.Subs.{sub_head, from_at, froms_of, steady, froms_right}
use Rattle.sub_letters.specs.Judging.{weigh_refusal, only, first_sub, fault_at, other_at, subs_answer, weigh_answer}
use Rattle.weighing.specs.Weighing.{weighed_letter, WeighDone}
use Rattle.moved.proofs.Handed.{length_handed, read_handed, from_handed, froms_handed, some_block}
use Rattle.moved.proofs.KeeperTests.{all_keepers_lem, different_differ, each_in_lem}
use Rattle.moved.specs.Moved.{OneMove, handed_to, carried_words, carried_random}
use Rattle.moved.proofs.MovedLetters.{weighed_letter_lem}
use Rattle.moved.proofs.MovedTray.{moved_one_cut}
use Rattle.moved.specs.Weighed.{SameKeepers}

-- a rule that gives no number
first_none : (rule : ℕ → Weighing) (k many : ℕ) → ((i : ℕ) → i < k + many → (rule i).number ≡ 0) → first_sub rule k many ≡ only 0
unfolding first_sub
first_none rule k zero h = refl
first_none rule k (suc many) h = rw (eq-eqb (rule k).number 0 (h k (omega arith))) (first_none rule (suc k) many (λ i l. h i (omega arith)))

module _ {O : Ops} (F : LetterField O) {m : Move} {froms : List ℕ} {shares random : ℕ → List ℕ} (M : OneMove O m froms shares random)
    {keepers : List ℕ} (S : SameKeepers froms keepers) (x : ℕ) (new : KeeperFacts m.told.order x) where
  -- all that x is handed
  abbrev letters : List ℕ
  letters = handed_to O m froms shares random x

  lawful : (y : ℕ) → In y keepers → lawful_keeper m.old y ≡ true
  lawful y i = in_every (λ z. lawful_keeper m.old z ≡ true) froms M.keepers y (S.known y i)

  weigh_not_refused : (slot : List ℕ) → length slot ≡ 2048 → weigh_refusal m keepers x letters slot ≡ 0
  unfolding weigh_refusal move_number
  weigh_not_refused slot room =
      rw (
        M.old_lawful,
        all_keepers_lem m.old keepers lawful,
        facts_lawful_keeper m.told.order x new,
        facts_terms m.told m.stamp m.length (lawful_terms_facts m.told m.stamp m.length M.told_lawful M.length_lawful M.stamp_lawful),
        eq-eqb (length keepers) (m.old.t + 1) (S.many ∙ M.many),
        eq-eqb (length letters) (2048 * (m.old.t + 1)) (length_handed F M x new ∙ ap (λ (n : ℕ). 2048 * n) M.many),
        eq-eqb (length slot) 2048 room,
      )

  faultless : (k : ℕ) → k < length keepers → (fault_at letters k).number ≡ 0
  faultless k l = ap number_of (read_handed F M x new k (omega (arith, S.many)))

  as_told_lem : (k : ℕ) → k < length keepers → (other_at m x letters k).number ≡ 0
  as_told_lem k l =
      let read = read_handed F M x new k (omega (arith, S.many)) in
      rw (equal_same_head (sub_head letters k) (head_for m.told m.stamp m.length x) (good_slot 82 256 _ _ read).first)

  steady_handed : steady letters (length keepers) m.length ≡ true
  unfolding steady
  steady_handed =
      all_to_holds (λ k. all_to (λ p. eqb (from_at letters k p) (from_at letters k 0)) (blocks_for m.length)) (length keepers)
      (λ k l. all_to_holds (λ p. eqb (from_at letters k p) (from_at letters k 0)) (blocks_for m.length) (λ p h.
      let within : k < length froms = omega (arith, S.many) in
      eq-eqb (from_at letters k p) (from_at letters k 0) (cc (from_handed F M x new k within p h, from_handed F M x new k within 0 (some_block F M)))))

  froms_right_lem : froms_right keepers letters m.length ≡ true
  unfolding froms_right
  froms_right_lem =
      let named : froms_of letters (length keepers) ≡ froms = ap (froms_of letters) S.many ∙ froms_handed F M x new in
      rw (named, different_differ keepers S.different, different_differ froms M.different, each_in_lem keepers froms S.known, each_in_lem froms keepers S.named)
      steady_handed

  -- nothing is refused
  pub weigh_answers : (slot : List ℕ) → length slot ≡ 2048 → weigh_answer m keepers x letters slot ≡ only 0
  unfolding weigh_answer subs_answer
  weigh_answers slot room =
      rw (
        weigh_not_refused slot room,
        first_none (fault_at letters) 0 (length keepers) (λ i l. faultless i (omega arith)),
        first_none (other_at m x letters) 0 (length keepers) (λ i l. as_told_lem i (omega arith)),
        froms_right_lem,
      )

  -- "the new keeper weighs": its call answers 0, and leaves its slot of the new tray
  pub weigh_done : {slot left : List ℕ} {answer : Weighing} → length slot ≡ 2048 → WeighDone O m keepers x letters slot answer left
      → (answer ≡ only 0) × (left ≡ slot_of (cut_tray O m.told m.stamp (carried_words O m froms shares) (carried_random O m froms random)) x)
  weigh_done {slot} room D =
      let e = D.answers ∙ weigh_answers slot room in
      let left = rw e at D.leaves in
      (e, left ∙ (ap (weighed_letter O m x letters) S.many ∙ (weighed_letter_lem F M x new ∙ sym (slot-cut F (moved_one_cut F M) x new))))
