-- What a weighing that is not refused has to weigh, and what it does once it is judged.
-- Assumes nothing.
use Rattle.std.specs.Prelude.{ℕ, ◌≡◌, List, length}
use Rattle.std.proofs.Common.{◌∙◌, arith}
use borrow.Author.Tests.{ne_eqb}
use Rattle.algebra.specs.Field.{Ops}
use Rattle.moving.specs.declared.terms.Move.{Move}
use Rattle.moving.specs.Lent.{MoveTerms}
use Rattle.sub_letters.specs.Judging.{Weighing}
use Rattle.sub_letters.specs.Lent.{SubsLent}
use Rattle.weighing.specs.Lent.{Weighable}
use Rattle.sub_letters.specs.Subs.{froms_of}
use Rattle.sub_letters.specs.Judging.{weigh_refusal, only, subs_answer, weigh_answer}
use Rattle.weighing.specs.Weighing.{weighed_letter, WeighDone}
use Rattle.sub_letters.specs.JudgingLaws.{good_words}

module _ (m : Move) (keepers : List ℕ) (keeper : ℕ) (letters : List ℕ) where
  pub weighable : (froms row : List ℕ) → (subs_answer m keepers keeper letters).number ≡ 0 → SubsLent letters (length keepers) → MoveTerms m
      → froms ≡ froms_of letters (length keepers) → length froms ≡ length keepers → length row ≡ m.length → Weighable froms letters row
  weighable froms row none lent terms named many size =
      record {
        named = rw many named;
        lent = rw many lent;
        room = omega (arith, terms.of_terms.length_most);
        words = λ k h. rw size (good_words m keepers keeper letters none k (omega arith));
      }

-- what a weighing does once it is judged
module _ (m : Move) (keepers : List ℕ) (keeper : ℕ) (letters slot : List ℕ) where
  pub weigh_refused : {O : Ops} {number : ℕ} → number ≡ weigh_refusal m keepers keeper letters slot → (number ≡ 0 → ⊥)
      → {answer : Weighing} → answer ≡ only number → WeighDone O m keepers keeper letters slot answer slot
  unfolding weigh_answer
  weigh_refused found other is =
      record {
        answers = is ∙ rw (← found, ne_eqb _ 0 other);
        leaves = rw (is, ne_eqb _ 0 other);
      }

  module _ (none : weigh_refusal m keepers keeper letters slot ≡ 0) {answer : Weighing} (judged : answer ≡ subs_answer m keepers keeper letters) where
    answered : answer ≡ weigh_answer m keepers keeper letters slot
    unfolding weigh_answer
    answered = judged ∙ rw none

    pub weigh_filled : {O : Ops} {left : List ℕ} → answer.number ≡ 0 → left ≡ weighed_letter O m keeper letters (length keepers)
        → WeighDone O m keepers keeper letters slot answer left
    weigh_filled nought full = record { answers = answered; leaves = rw nought full }

    pub weigh_judged : {O : Ops} → (answer.number ≡ 0 → ⊥) → WeighDone O m keepers keeper letters slot answer slot
    weigh_judged other = record { answers = answered; leaves = rw (ne_eqb _ 0 other) }
