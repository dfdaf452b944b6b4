-- Demand 1: "a refused call changes no byte lent to it". One theorem for each promise of a call that is lent bytes to write; the other calls only
-- read what they are lent.
-- Assumes nothing.
use Rattle.std.specs.Prelude.{ℕ, ◌≡◌, refl, Bool, List, length, drop}
use Rattle.std.proofs.Common.{◌∙◌, drop_at, ne_eqb}
use Rattle.algebra.specs.Field.{Ops}
use Rattle.header.specs.declared.order.Order.{Order}
use Rattle.header.specs.declared.told.Told.{Told}
use Rattle.shares.specs.Fills.{unchanged}
use Rattle.shares.specs.Words.{WordsDone}
use Rattle.cut.specs.Cut.{CutDone}
use Rattle.join.specs.Join.{Joined}
use Rattle.join.specs.Join.{Outcome, few, apart, wide, joined, JoinDone, refused, judged}
use Rattle.desk.specs.Desk.{Stored}
use Rattle.desk.specs.Desk.{store_leaves, StoreDone}
use Rattle.compare.specs.Compare.{Compared}
use Rattle.compare.specs.Compare.{CompareDone}
use Rattle.compare.specs.Compare as compare
use Rattle.report_text.specs.Report.{Answered, Reported}

-- the cut's tray
pub cut_unchanged : (O : Ops) (told : Told) (stamp : ℕ) (secret random tray : List ℕ) {number : ℕ} {left : List ℕ}
    → CutDone O told stamp secret random tray number left → (number ≡ 0 → ⊥) → left ≡ tray
cut_unchanged O told stamp secret random tray D wrong = unchanged D wrong

-- the rows of a cut of words
pub words_unchanged : (O : Ops) (order : Order) (words random rows : List ℕ) {number : ℕ} {left : List ℕ}
    → WordsDone O order words random rows number left → (number ≡ 0 → ⊥) → left ≡ rows
words_unchanged O order words random rows D wrong = unchanged D wrong

outcome_unchanged : {O : Ops} {t f n l : ℕ} {us : ℕ → Bool} {word : ℕ → ℕ → ℕ} {room left : List ℕ} {result : Joined}
    → Outcome O t f n us word l room result left → (result.number ≡ 0 → ⊥) → left ≡ room
outcome_unchanged (few h) wrong = refl
outcome_unchanged (apart h none) wrong = refl
outcome_unchanged (wide ps R e) wrong = refl
outcome_unchanged (joined ps R e) wrong = absurd (wrong refl)

-- the join's room
pub join_unchanged : {O : Ops} {told : Told} {stamp l : ℕ} {tray room left : List ℕ} {result : Joined}
    → JoinDone O told stamp l tray room result left → (result.number ≡ 0 → ⊥) → left ≡ room
join_unchanged (refused h) wrong = refl
join_unchanged (judged e D) wrong = outcome_unchanged D wrong

-- the desk's slot
pub store_unchanged : {told : Told} {keeper : ℕ} {held letter left : List ℕ} {result : Stored}
    → StoreDone told keeper held letter result left → (result.number ≡ 0 → ⊥) → left ≡ held
unfolding store_leaves
store_unchanged D wrong = D.leaves ∙ rw (ne_eqb _ 0 (λ e. wrong (D.number ∙ e)))

-- the list of what changed between two trays
pub compare_unchanged : {order : Order} {first second : List ℕ} {list left : List (List ℕ)} {result : Compared}
    → CompareDone order first second list result left → (result.number ≡ 0 → ⊥) → left ≡ list
compare_unchanged (compare.refused h) wrong = refl
compare_unchanged (compare.short e l) wrong = refl
compare_unchanged (compare.told e l) wrong = absurd (wrong refl)

-- The report always writes, a refusal too: its own rule is that nothing past what it writes is changed.
pub report_unchanged : {input before after : List ℕ} {answered : Answered} → Reported input before answered after → drop answered.count after ≡ drop answered.count before
report_unchanged {before = before} R = rw (R.written, R.counted) (drop_at R.bytes (drop (length R.bytes) before) (length R.bytes) refl)
