-- Of both calls of a move: "Any two results allowed by one promise are proved the same", and "a refused call changes no byte lent to it". Of sub-letters:
-- "Equal meaning, equal bytes".
-- Assumes nothing.
use Rattle.std.specs.Prelude.{ℕ, ◌≤◌, ◌≡◌, refl, true, cond, Result, Ok, Err, List, eqb, length}
use Rattle.std.proofs.Common.{sym, ap, ◌∙◌, arith, ne_eqb}
use Rattle.lists.specs.Below.{Below}
use Rattle.algebra.specs.Field.{Ops}
use Rattle.refusals.specs.Numbers.{code_some}
use Rattle.refusals.specs.Same.{code_same}
use Rattle.header.specs.declared.head.Head.{Head}
use Rattle.header.specs.Head.{lawful_head}
use Rattle.format.specs.declared.reader.Fault.{Fault}
use Rattle.format.specs.Reading.{Good, shares_of, read_as}
use Rattle.format.specs.Letter.{slot_bytes}
use Rattle.format.specs.OneSlot.{FromIn, same_slot_as, same_written_as}
use Rattle.format.specs.WrittenReads.{written_reads_as}
use Rattle.shares.specs.Fills.{unchanged, fills_same}
use Rattle.moving.specs.Cutting.{Cutting, cutting_of}
use Rattle.moving.specs.declared.terms.Move.{Move}
use Rattle.moving.specs.Cutting.{MoveCutDone}
use Rattle.sub_letters.specs.declared.judging.SubFault.{SubFault}
use Rattle.sub_letters.specs.Judging.{Weighing, weighing_of}
use Rattle.weighing.specs.Weighing.{weighed_letter, WeighDone}
use Rattle.demands.proofs.AnswersSame.{fault_same}

-- the cutting
module _ {O : Ops} {m : Move} {keeper : ℕ} {letter random tray left : List ℕ} {answer : Cutting} (D : MoveCutDone O m keeper letter random tray answer left) where
  pub move_cut_same : {answer' : Cutting} {left' : List ℕ} → MoveCutDone O m keeper letter random tray answer' left' → (answer ≡ answer') × (left ≡ left')
  move_cut_same D' =
      let same = fills_same D.fills D'.fills in
      let place = D.place_is ∙ sym D'.place_is in
      (λ i. record { number = same.0 i; place = place i }, same.1)

  pub move_cut_unchanged : (answer.number ≡ 0 → ⊥) → left ≡ tray
  move_cut_unchanged wrong = unchanged D.fills wrong

-- the weighing
module _ {O : Ops} {m : Move} {keepers : List ℕ} {keeper : ℕ} {letters slot left : List ℕ} {answer : Weighing}
    (D : WeighDone O m keepers keeper letters slot answer left) where
  pub move_weigh_same : {answer' : Weighing} {left' : List ℕ} → WeighDone O m keepers keeper letters slot answer' left' → (answer ≡ answer') × (left ≡ left')
  move_weigh_same D' =
      let same = D.answers ∙ sym D'.answers in
      (same, D.leaves ∙ ap (λ (a : Weighing). cond (eqb a.number 0) (weighed_letter O m keeper letters (length keepers)) slot) same ∙ sym D'.leaves)

  pub move_weigh_unchanged : (answer.number ≡ 0 → ⊥) → left ≡ slot
  move_weigh_unchanged wrong = D.leaves ∙ rw (ne_eqb _ 0 wrong)

-- what both answer: a reason has a number of its own, so answers whose numbers are the same are the same answers
cutting_one : (one other : Result Unit Fault) → cutting_of one ≡ cutting_of other → one ≡ other
cutting_one (Ok done) (Ok done') same = refl
cutting_one (Ok done) (Err fault) same = absurd (code_some fault.refusal (sym (ap (λ (a : Cutting). a.number) same)))
cutting_one (Err fault) (Ok done) same = absurd (code_some fault.refusal (ap (λ (a : Cutting). a.number) same))
cutting_one (Err fault) (Err fault') same = ap Err (fault_same (ap (λ (a : Cutting). a.number) same) (ap (λ (a : Cutting). a.place) same))

pub move_cut_answers_same : {O : Ops} {m : Move} {keeper : ℕ} {letter random tray left left' : List ℕ} {result result' : Result Unit Fault}
    → MoveCutDone O m keeper letter random tray (cutting_of result) left → MoveCutDone O m keeper letter random tray (cutting_of result') left'
    → (result ≡ result') × (left ≡ left')
move_cut_answers_same {result = result} {result'} D D' =
    let same = move_cut_same D D' in
    (cutting_one result result' same.0, same.1)

weighing_one : (one other : Result Unit SubFault) → weighing_of one ≡ weighing_of other → one ≡ other
weighing_one (Ok done) (Ok done') same = refl
weighing_one (Ok done) (Err fault) same = absurd (code_some fault.refusal (sym (ap (λ (a : Weighing). a.number) same)))
weighing_one (Err fault) (Ok done) same = absurd (code_some fault.refusal (ap (λ (a : Weighing). a.number) same))
weighing_one (Err fault) (Err fault') same =
    let refusal = code_same fault.refusal fault'.refusal (ap (λ (a : Weighing). a.number) same) in
    let whole : fault ≡ fault' = λ i. record { refusal = refusal i; letter = (same i).letter; place = (same i).place } in
    ap Err whole

pub move_weigh_answers_same : {O : Ops} {m : Move} {keepers : List ℕ} {keeper : ℕ} {letters slot left left' : List ℕ} {result result' : Result Unit SubFault}
    → WeighDone O m keepers keeper letters slot (weighing_of result) left → WeighDone O m keepers keeper letters slot (weighing_of result') left'
    → (result ≡ result') × (left ≡ left')
move_weigh_answers_same {result = result} {result'} D D' =
    let same = move_weigh_same D D' in
    (weighing_one result result' same.0, same.1)

-- two good sub-letters that give the same head, share words and old keeper are one
pub same_sub-slot : (from : ℕ) (one two : List ℕ) (h : Head) → Below 256 one → Below 256 two → read_as 82 256 one ≡ Good h → read_as 82 256 two ≡ Good h
    → FromIn one h from → FromIn two h from → shares_of one h.length ≡ shares_of two h.length → one ≡ two
same_sub-slot = same_slot_as 82 256

-- two sub-letters, as written, of the same bytes have the same head, share words and old keeper
pub same_sub_letter : (from from' : ℕ) (g h : Head) (vs ws : List ℕ) → from ≤ 256 → from' ≤ 256 → lawful_head g ≡ true → lawful_head h ≡ true
    → length vs ≡ g.length → length ws ≡ h.length → Below 257 vs → Below 257 ws
    → slot_bytes 82 from g vs ≡ slot_bytes 82 from' h ws → (g ≡ h) × (vs ≡ ws) × (from ≡ from')
same_sub_letter from from' g h vs ws small small' lawful-g lawful-h size-v size-w below-v below-w same =
    same_written_as 82 256 from from' g h vs ws (written_reads_as 82 from g vs 256 (omega arith) small small lawful-g size-v below-v)
    (written_reads_as 82 from' h ws 256 (omega arith) small' small' lawful-h size-w below-w) same
