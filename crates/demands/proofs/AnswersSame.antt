-- "Any two results allowed by one promise are proved the same", of what the functions of the library answer: a reason has a number of its own, so answers
-- whose numbers are the same are the same answers.
-- Assumes nothing.
use Rattle.std.specs.Prelude.{ℕ, ◌<◌, ◌≡◌, refl, Bool, true, false, cond, Result, Ok, Err, IfOk, List}
use Rattle.std.proofs.Common.{sym, ap, ◌∙◌, arith}
use Rattle.algebra.specs.Field.{Ops}
use Rattle.refusals.specs.declared.Refusal.{Refusal}
use Rattle.refusals.specs.Numbers.{code, code_of, code_some}
use Rattle.refusals.specs.Same.{code_same, code_of_same}
use Rattle.header.specs.declared.head.Head.{Head}
use Rattle.header.specs.declared.order.Order.{Order}
use Rattle.header.specs.declared.told.Told.{Told}
use Rattle.format.specs.declared.reader.Fault.{Fault}
use Rattle.format.specs.Reading.{reading_of, read_of, read_head, number_of, place_of}
use Rattle.shares.specs.Words.{WordsDone}
use Rattle.cut.specs.Cut.{CutDone}
use Rattle.cut.specs.LetterField.{LetterField}
use Rattle.join.specs.declared.Joined.{Joined as Found}
use Rattle.join.specs.Join.{Joined, joined_of, JoinDone}
use Rattle.desk.specs.Desk.{Stored, stored_of, StoreDone, fetch_number, fetched}
use Rattle.pick.specs.declared.Picked.{Picked as Chosen}
use Rattle.pick.specs.Pick.{Picked, picked_of, PickDone}
use Rattle.compare.specs.declared.Unlisted.{Unlisted}
use Rattle.compare.specs.declared.Unlisted.TheVariants.{Refused, TooMany}
use Rattle.compare.specs.Compare.{Compared, compared_of, compare_refusal, CompareDone}
use Rattle.compare.specs.Compare as compare
use Rattle.report_text.specs.declared.answer.Answered.{Answered as Answer}
use Rattle.report_text.specs.Report.{Answered, answered_of, Reported}
use Rattle.demands.proofs.Same.{read_same, cut_same, words_same, join_same, store_same, compare_same, pick_same, report_same}

-- a fault is its reason's number and its place
pub fault_same : {one other : Fault} → code one.refusal ≡ code other.refusal → one.place ≡ other.place → one ≡ other
fault_same {one} {other} number place =
    let refusal = code_same one.refusal other.refusal number in
    λ i. record { refusal = refusal i; place = place i }

-- what the reader answers
reading_one : (one other : Result Head Fault) → reading_of one ≡ reading_of other → one ≡ other
reading_one (Ok h) (Ok h') same = ap Ok (ap read_head same)
reading_one (Ok h) (Err fault) same = absurd (code_some fault.refusal (sym (ap number_of same)))
reading_one (Err fault) (Ok h) same = absurd (code_some fault.refusal (ap number_of same))
reading_one (Err fault) (Err fault') same = ap Err (fault_same (ap number_of same) (ap place_of same))

pub read_answers_same : (slot : List ℕ) {result result' : Result Head Fault} → reading_of result ≡ read_of slot → reading_of result' ≡ read_of slot
    → result ≡ result'
read_answers_same slot {result} {result'} e e' = reading_one result result' (read_same slot e e')

-- the cuts
pub cut_answers_same : (O : Ops) (told : Told) (stamp : ℕ) (secret random tray : List ℕ) {result result' : Result Unit Refusal} {left left' : List ℕ}
    → CutDone O told stamp secret random tray (code_of result) left → CutDone O told stamp secret random tray (code_of result') left'
    → (result ≡ result') × (left ≡ left')
cut_answers_same O told stamp secret random tray {result} {result'} D D' =
    let same = cut_same O told stamp secret random tray D D' in
    (code_of_same result result' same.0, same.1)

pub words_answers_same : (O : Ops) (order : Order) (words random rows : List ℕ) {result result' : Result Unit Refusal} {left left' : List ℕ}
    → WordsDone O order words random rows (code_of result) left → WordsDone O order words random rows (code_of result') left'
    → (result ≡ result') × (left ≡ left')
words_answers_same O order words random rows {result} {result'} D D' =
    let same = words_same O order words random rows D D' in
    (code_of_same result result' same.0, same.1)

-- the join
found_one : (one other : Found) → joined_of one ≡ joined_of other → one ≡ other
found_one one other same =
    let outcome = code_of_same one.outcome other.outcome (ap (λ (r : Joined). r.number) same) in
    λ i. record {
      outcome = outcome i;
      usable = (same i).usable;
      need = (same i).need;
      set = record { bits = (same i).set };
      trials = (same i).trials;
    }

pub join_answers_same : {O : Ops} → LetterField O → {told : Told} {stamp l : ℕ} {tray room left left' : List ℕ} {result result' : Found}
    → JoinDone O told stamp l tray room (joined_of result) left → JoinDone O told stamp l tray room (joined_of result') left'
    → (result ≡ result') × (left ≡ left')
join_answers_same F {result = result} {result'} D D' =
    let same = join_same F D D' in
    (found_one result result' same.0, same.1)

-- the desk: storing; the part that fetching hands back, or why there is none
stored_one : (one other : Result Unit Fault) → stored_of one ≡ stored_of other → one ≡ other
stored_one (Ok done) (Ok done') same = refl
stored_one (Ok done) (Err fault) same = absurd (code_some fault.refusal (sym (ap (λ (r : Stored). r.number) same)))
stored_one (Err fault) (Ok done) same = absurd (code_some fault.refusal (ap (λ (r : Stored). r.number) same))
stored_one (Err fault) (Err fault') same = ap Err (fault_same (ap (λ (r : Stored). r.number) same) (ap (λ (r : Stored). r.place) same))

pub store_answers_same : {told : Told} {keeper : ℕ} {held letter left left' : List ℕ} {result result' : Result Unit Fault}
    → StoreDone told keeper held letter (stored_of result) left → StoreDone told keeper held letter (stored_of result') left'
    → (result ≡ result') × (left ≡ left')
store_answers_same {result = result} {result'} D D' =
    let same = store_same D D' in
    (stored_one result result' same.0, same.1)

module _ (told : Told) (keeper : ℕ) (held : List ℕ) where
  pub fetch_answers_same : (result result' : Result (List ℕ) Refusal) → code_of result ≡ fetch_number told keeper held
      → IfOk result (λ part. part ≡ fetched told keeper held) → code_of result' ≡ fetch_number told keeper held
      → IfOk result' (λ part. part ≡ fetched told keeper held) → result ≡ result'
  fetch_answers_same (Ok part) (Ok part') n e n' e' = ap Ok (e ∙ sym e')
  fetch_answers_same (Ok part) (Err refusal) n e n' e' = absurd (code_some refusal (n' ∙ sym n))
  fetch_answers_same (Err refusal) (Ok part) n e n' e' = absurd (code_some refusal (n ∙ sym n'))
  fetch_answers_same (Err refusal) (Err refusal') n e n' e' = ap Err (code_same refusal refusal' (n ∙ sym n'))

-- the comparison: 18 is answered of some differences, and a refusal of none, so `TooMany` and `Refused` are told apart too
not_18 : (lawful sized : Bool) (number : ℕ) → number ≡ cond lawful (cond sized 0 4) 1 → number ≡ 18 → ⊥
not_18 true true number is e = omega arith
not_18 true false number is e = omega arith
not_18 false sized number is e = omega arith

module _ {order : Order} {first second : List ℕ} {list : List (List ℕ)} where
  some_differ : {answer : Compared} {left : List (List ℕ)} → CompareDone order first second list answer left → answer.number ≡ 18 → 0 < answer.count
  unfolding compare_refusal
  some_differ (compare.refused h) e = absurd (not_18 _ _ _ refl e)
  some_differ (compare.short e l) same = omega (arith, l)
  some_differ (compare.told e l) same = absurd (omega (arith, same))

  none_differ : (refusal : Refusal) (count : ℕ) {left : List (List ℕ)} → CompareDone order first second list (compared_of (Err (TooMany count))) left
      → compared_of (Err (Refused refusal)) ≡ compared_of (Err (TooMany count)) → ⊥
  none_differ refusal count D same = omega (arith, some_differ D refl, ap (λ (r : Compared). r.count) same)

  compared_one : {left left' : List (List ℕ)} (one other : Result ℕ Unlisted) → CompareDone order first second list (compared_of one) left
      → CompareDone order first second list (compared_of other) left' → compared_of one ≡ compared_of other → one ≡ other
  compared_one (Ok count) (Ok count') D D' same = ap Ok (ap (λ (r : Compared). r.count) same)
  compared_one (Ok count) (Err (Refused refusal)) D D' same = absurd (code_some refusal (sym (ap (λ (r : Compared). r.number) same)))
  compared_one (Ok count) (Err (TooMany count')) D D' same = absurd (omega (arith, ap (λ (r : Compared). r.number) same))
  compared_one (Err (Refused refusal)) (Ok count) D D' same = absurd (code_some refusal (ap (λ (r : Compared). r.number) same))
  compared_one (Err (Refused refusal)) (Err (Refused refusal')) D D' same =
      ap (λ r. Err (Refused r)) (code_same refusal refusal' (ap (λ (r : Compared). r.number) same))
  compared_one (Err (Refused refusal)) (Err (TooMany count)) D D' same = absurd (none_differ refusal count D' same)
  compared_one (Err (TooMany count)) (Ok count') D D' same = absurd (omega (arith, ap (λ (r : Compared). r.number) same))
  compared_one (Err (TooMany count)) (Err (Refused refusal)) D D' same = absurd (none_differ refusal count D (sym same))
  compared_one (Err (TooMany count)) (Err (TooMany count')) D D' same = ap (λ k. Err (TooMany k)) (ap (λ (r : Compared). r.count) same)

  pub compare_answers_same : {result result' : Result ℕ Unlisted} {left left' : List (List ℕ)}
      → CompareDone order first second list (compared_of result) left → CompareDone order first second list (compared_of result') left'
      → (result ≡ result') × (left ≡ left')
  compare_answers_same {result} {result'} D D' =
      let same = compare_same D D' in
      (compared_one result result' D D' same.0, same.1)

-- the pick
chosen_one : (one other : Chosen) → picked_of one ≡ picked_of other → one ≡ other
chosen_one one other same =
    let outcome = code_of_same one.outcome other.outcome (ap (λ (r : Picked). r.number) same) in
    λ i. record { outcome = outcome i; stamp = (same i).stamp; length = (same i).length }

pub pick_answers_same : {O : Ops} → LetterField O → {told : Told} {tray : List ℕ} {result result' : Chosen}
    → PickDone O told tray (picked_of result) → PickDone O told tray (picked_of result') → result ≡ result'
pick_answers_same F {result = result} {result'} D D' = chosen_one result result' (pick_same F D D')

-- the report
answered_one : (one other : Answer) → answered_of one ≡ answered_of other → one ≡ other
answered_one one other same =
    let outcome = code_of_same one.outcome other.outcome (ap (λ (r : Answered). r.number) same) in
    λ i. record { count = (same i).count; outcome = outcome i }

pub report_answers_same : {input before after after' : List ℕ} {result result' : Answer}
    → Reported input before (answered_of result) after → Reported input before (answered_of result') after' → (result ≡ result') × (after ≡ after')
report_answers_same {result = result} {result'} R R' =
    let same = report_same R R' in
    (answered_one result result' same.0, same.1)
