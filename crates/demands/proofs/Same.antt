-- "Any two results allowed by one promise are proved the same": one theorem for each public call, and for what other crates may cut.
-- Assumes nothing.
use Rattle.std.specs.Prelude.{ℕ, ◌≡◌, refl, List, ◌∷◌, ◌++◌, length, drop}
use Rattle.std.proofs.Common.{sym, ap, ap₂, ◌∙◌, inl, inr, le_antisymm, arith}
use Rattle.std.proofs.lemmas.Bool.{false≢true}
use Rattle.algebra.specs.Field.{Ops}
use Rattle.algebra.specs.Poly.{eval}
use Rattle.header.specs.declared.order.Order.{Order}
use Rattle.header.specs.declared.told.Told.{Told}
use Rattle.header.specs.OrderLaws.{facts_lawful_order}
use Rattle.format.specs.Reading.{Reading, read_of}
use Rattle.shares.specs.Fills.{fills_same}
use Rattle.shares.specs.Words.{WordsDone}
use Rattle.cut.specs.Cut.{CutDone}
use Rattle.cut.specs.LetterField.{LetterField, keepers_apart, mod257-letters}
use Rattle.join.specs.Join.{Joined}
use Rattle.join.specs.Join.{JoinDone, refused, judged}
use Rattle.join.specs.OutcomeLaws.{outcome_same}
use Rattle.desk.specs.Desk.{Stored}
use Rattle.desk.specs.Desk.{StoreDone, fetch_number, fetched}
use Rattle.pick.specs.Pick.{Picked}
use Rattle.pick.specs.Pick.{NotBefore, First, picked, PickDone}
use Rattle.pick.specs.Pick as pick
use Rattle.pick.specs.JoinGivesLaws.{gives_same}
use Rattle.pick.specs.RefusalLaws.{pick_facts}
use Rattle.compare.specs.Compare.{Compared}
use Rattle.compare.specs.Compare.{CompareDone}
use Rattle.compare.specs.Compare as compare
use Rattle.lines.specs.Lines.{answer_line}
use Rattle.report_text.specs.Report.{Answered, has_lines, ReportOf, short, unpicked, joined, Reported}
use Rattle.demands.proofs.JoinAnswers.{not_refused_order}

-- reading a slot
pub read_same : (slot : List ℕ) {reading reading' : Reading} → reading ≡ read_of slot → reading' ≡ read_of slot → reading ≡ reading'
read_same slot e e' = e ∙ sym e'

-- the cut
pub cut_same : (O : Ops) (told : Told) (stamp : ℕ) (secret random tray : List ℕ) {number number' : ℕ} {left left' : List ℕ}
    → CutDone O told stamp secret random tray number left → CutDone O told stamp secret random tray number' left' → (number ≡ number') × (left ≡ left')
cut_same O told stamp secret random tray D D' = fills_same D D'

-- the cutting of one value
pub value_same : (O : Ops) (constant : ℕ) (coefficients : List ℕ) (x : ℕ) {word word' : ℕ}
    → word ≡ eval O (constant ∷ coefficients) x → word' ≡ eval O (constant ∷ coefficients) x → word ≡ word'
value_same O constant coefficients x e e' = e ∙ sym e'

-- the cut of a list of words
pub words_same : (O : Ops) (order : Order) (words random rows : List ℕ) {number number' : ℕ} {left left' : List ℕ}
    → WordsDone O order words random rows number left → WordsDone O order words random rows number' left' → (number ≡ number') × (left ≡ left')
words_same O order words random rows D D' = fills_same D D'

-- the join
pub join_same : {O : Ops} → LetterField O → {told : Told} {stamp l : ℕ} {tray room left left' : List ℕ} {result result' : Joined}
    → JoinDone O told stamp l tray room result left → JoinDone O told stamp l tray room result' left' → (result ≡ result') × (left ≡ left')
join_same F (refused h) (refused h') = (refl, refl)
join_same F (refused h) (judged e D) = absurd (h e)
join_same F (judged e D) (refused h) = absurd (h e)
join_same F {told} {stamp} {l} {tray} {room} (judged e D) (judged e' D') = outcome_same F.laws (keepers_apart F told.order (not_refused_order told stamp l tray room e)) D D'

-- the desk: storing, the number that fetching answers, what it hands back
pub store_same : {told : Told} {keeper : ℕ} {held letter left left' : List ℕ} {result result' : Stored}
    → StoreDone told keeper held letter result left → StoreDone told keeper held letter result' left' → (result ≡ result') × (left ≡ left')
store_same D D' =
    let number = D.number ∙ sym D'.number in
    let place = D.place ∙ sym D'.place in
    (λ i. record { number = number i; place = place i }, D.leaves ∙ sym D'.leaves)

pub fetch_number_same : (told : Told) (keeper : ℕ) (held : List ℕ) {number number' : ℕ}
    → number ≡ fetch_number told keeper held → number' ≡ fetch_number told keeper held → number ≡ number'
fetch_number_same told keeper held e e' = e ∙ sym e'

pub fetch_same : (told : Told) (keeper : ℕ) (held : List ℕ) {part part' : List ℕ}
    → part ≡ fetched told keeper held → part' ≡ fetched told keeper held → part ≡ part'
fetch_same told keeper held e e' = e ∙ sym e'

-- the comparison of two trays
pub compare_same : {order : Order} {first second : List ℕ} {list left left' : List (List ℕ)} {result result' : Compared}
    → CompareDone order first second list result left → CompareDone order first second list result' left' → (result ≡ result') × (left ≡ left')
compare_same (compare.refused h) (compare.refused h') = (refl, refl)
compare_same (compare.refused h) (compare.short e l) = absurd (h e)
compare_same (compare.refused h) (compare.told e l) = absurd (h e)
compare_same (compare.short e l) (compare.refused h) = absurd (h e)
compare_same (compare.short e l) (compare.short e' l') = (refl, refl)
compare_same (compare.short e l) (compare.told e' l') = absurd (omega arith)
compare_same (compare.told e l) (compare.refused h) = absurd (h e)
compare_same (compare.told e l) (compare.short e' l') = absurd (omega arith)
compare_same (compare.told e l) (compare.told e' l') = (refl, refl)

-- the pick: one group comes first, and what its join gives is one number
first_one : {property : ℕ → ℕ → Type 0} {s k stamp l : ℕ} → First property s k → First property stamp l → (s ≡ stamp) × (k ≡ l)
first_one {s = s} {k} {stamp} {l} one two = neither_before (two.rest s k one.has) (one.rest stamp l two.has)
  where
    neither_before : NotBefore s k stamp l → NotBefore stamp l s k → (s ≡ stamp) × (k ≡ l)
    neither_before (inl earlier) (inl later) = absurd (omega arith)
    neither_before (inl earlier) (inr same) = absurd (omega arith)
    neither_before (inr same) (inl later) = absurd (omega arith)
    neither_before (inr same) (inr back) = (same.0, le_antisymm same.1 back.1)

pub pick_same : {O : Ops} → LetterField O → {told : Told} {tray : List ℕ} {a b : Picked} → PickDone O told tray a → PickDone O told tray b → a ≡ b
pick_same F (pick.refused p) (pick.refused q) = refl
pick_same F (pick.refused p) (pick.none e f) = absurd (p e)
pick_same F (pick.refused p) (pick.chosen stamp l e first) = absurd (p e)
pick_same F (pick.refused p) (pick.stuck number stamp l e never first J) = absurd (p e)
pick_same F (pick.none e f) (pick.refused q) = absurd (q e)
pick_same F (pick.none e f) (pick.none p g) = refl
pick_same F (pick.none e f) (pick.chosen stamp l p first) = absurd (f stamp l first.has.large)
pick_same F (pick.none e f) (pick.stuck number stamp l p never first J) = absurd (f stamp l first.has)
pick_same F (pick.chosen s k e one) (pick.refused q) = absurd (q e)
pick_same F (pick.chosen s k e one) (pick.none p g) = absurd (g s k one.has.large)
pick_same F (pick.chosen s k e one) (pick.chosen stamp l p two) = let same = first_one one two in ap₂ (picked 0) same.0 same.1
pick_same F (pick.chosen s k e one) (pick.stuck number stamp l p never two J) = absurd (never s k one.has)
pick_same F (pick.stuck number s k e never one J) (pick.refused q) = absurd (q e)
pick_same F (pick.stuck number s k e never one J) (pick.none p g) = absurd (g s k one.has)
pick_same F (pick.stuck number s k e never one J) (pick.chosen stamp l p two) = absurd (never stamp l two.has)
pick_same F {told} {tray} (pick.stuck number s k e never one J) (pick.stuck number' stamp l p never' two J') =
    let same = first_one one two in
    let apart = keepers_apart F told.order (facts_lawful_order told.order (pick_facts told tray e).of_told.of_order) in
    let numbers = gives_same F.laws apart (rw (same.0, same.1) at J) J' in
    λ i. picked (numbers i) (same.0 i) (same.1 i)

-- the report: the bytes, with the number that they end in
report_of_same : {input : List ℕ} {number number' : ℕ} {bytes bytes' : List ℕ} → ReportOf input number bytes → ReportOf input number' bytes'
    → (number ≡ number') × (bytes ≡ bytes')
report_of_same (short h) (short h') = (refl, refl)
report_of_same (short h) (unpicked p whole D e) = absurd (omega arith)
report_of_same (short h) (joined p result left whole D e J) = absurd (omega arith)
report_of_same (unpicked p whole D e) (short h) = absurd (omega arith)
report_of_same (unpicked p whole D e) (unpicked p' whole' D' e') =
    let same = ap (λ (r : Picked). r.number) (pick_same mod257-letters D D') in
    (same, ap answer_line same)
report_of_same (unpicked p whole D e) (joined p' result left whole' D' e' J) =
    absurd (false≢true (sym e ∙ (ap (λ (r : Picked). has_lines r.number) (pick_same mod257-letters D D') ∙ e')))
report_of_same (joined p result left whole D e J) (short h) = absurd (omega arith)
report_of_same (joined p result left whole D e J) (unpicked p' whole' D' e') =
    absurd (false≢true (sym e' ∙ (ap (λ (r : Picked). has_lines r.number) (pick_same mod257-letters D' D) ∙ e)))
report_of_same (joined p result left whole D e J) (joined p' result' left' whole' D' e' J') =
    let one = pick_same mod257-letters D D' in
    let results : result ≡ result' = (join_same mod257-letters (rw one at J) J').0 in
    (ap (λ (r : Joined). r.number) results, rw (one, results))

pub report_same : {input before after after' : List ℕ} {answered answered' : Answered}
    → Reported input before answered after → Reported input before answered' after' → (answered ≡ answered') × (after ≡ after')
report_same {input} {before} R R' =
    let e = report_of_same R.right R'.right in
    let counts = R.counted ∙ (ap length e.1 ∙ sym R'.counted) in
    let written = R.written ∙ (ap (λ (bytes : List ℕ). bytes ++ drop (length bytes) before) e.1 ∙ sym R'.written) in
    (λ i. record { count = counts i; number = e.0 i }, written)
