-- The places that the calls of a move answer are small, and so is the number of a sub-letter.
-- Assumes nothing.
use Rattle.std.specs.Prelude.{ℕ, zero, suc, ◌+◌, ◌<◌, ◌≤◌, ◌≡◌, refl, Bool, true, false, cond, List, eqb, length}
use Rattle.std.proofs.Common.{arith, eqb-true}
use Rattle.format.specs.Reading.{read_of, place_of}
use Rattle.format.specs.ReadingBounds.{small_place, small_place_as}
use Rattle.tray.specs.Tray.{slot_of}
use Rattle.moving.specs.declared.terms.Move.{Move}
use Rattle.moving.specs.Cutting.{cut_refusal, move_cut_place}
use Rattle.sub_letters.specs.Judging.{Weighing}
use Rattle.sub_letters.specs.Subs.{froms_right}
use Rattle.sub_letters.specs.Judging.{only, or_next, first_sub, fault_at, other_at, subs_answer, weigh_refusal, weigh_answer}
use Rattle.sub_letters.specs.JudgingLaws.{weigh_right}
use Rattle.exports.specs.StorePlace.{small_or_none}

pub small_cut-place : (m : Move) (keeper : ℕ) (letter random tray : List ℕ) → move_cut_place m keeper letter random tray < 512
unfolding move_cut_place
small_cut-place m keeper letter random tray =
    small_or_none (eqb (cut_refusal m keeper letter random tray) 0) (place_of (read_of letter)) (small_place letter)

pub record Small (w : Weighing) : Type 0 where
  pub letter : w.letter < 512
  pub place : w.place < 512

small_only : (number : ℕ) → Small (only number)
small_only number = record { letter = omega arith; place = omega arith }

small_either : (test : Bool) (one two : Weighing) → (test ≡ true → Small one) → Small two → Small (cond test one two)
small_either true one two a b = a refl
small_either false one two a b = b

small_first : (rule : ℕ → Weighing) (k many : ℕ) → k + many ≤ 512 → ((i : ℕ) → i < 512 → Small (rule i)) → Small (first_sub rule k many)
unfolding first_sub
small_first rule k zero room each = small_only 0
small_first rule k (suc many) room each =
    small_either (eqb (rule k).number 0) (first_sub rule (suc k) many) (rule k) (λ _. small_first rule (suc k) many (omega arith) each) (each k (omega arith))

pub small_weighing : (m : Move) (keepers : List ℕ) (keeper : ℕ) (letters slot : List ℕ) → Small (weigh_answer m keepers keeper letters slot)
unfolding weigh_answer subs_answer
small_weighing m keepers keeper letters slot =
    let refusal = weigh_refusal m keepers keeper letters slot in
    let others = first_sub (other_at m keeper letters) 0 (length keepers) in
    let last = only (cond (froms_right keepers letters m.length) 0 19) in
    let faults = first_sub (fault_at letters) 0 (length keepers) in
    small_either (eqb refusal 0) _ (only refusal)
    (λ e.
    let few = (weigh_right m keepers keeper letters slot (eqb-true refusal 0 e)).lent.few in
    let small-others = small_first (other_at m keeper letters) 0 (length keepers) (omega arith) (λ i h. record { letter = h; place = omega arith }) in
    let small-faults = small_first (fault_at letters) 0 (length keepers) (omega arith) (λ i h. record { letter = h; place = small_place_as 82 256 (slot_of letters (suc i)) }) in
    small_either (eqb faults.number 0) (or_next others last) faults
    (λ _. small_either (eqb others.number 0) last others (λ _. small_only _) small-others) small-faults)
    (small_only refusal)
