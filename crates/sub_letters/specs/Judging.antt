-- What a weighing answers: by what is told and lent, then by the sub-letters.
-- Assumes nothing.
use Rattle.std.specs.Prelude.{ℕ, zero, suc, ◌+◌, ◌*◌, ◌<◌, ◌≡◌, Bool, cond, ◌&&◌, List, Result, Ok, Err, eqb, length}
use Rattle.refusals.specs.Numbers.{code}
use Rattle.header.specs.FirstOf.{first_of}
use Rattle.header.specs.Head.{same_head}
use Rattle.header.specs.Order.{lawful_keeper}
use Rattle.format.specs.Reading.{number_of, place_of}
use Rattle.tray.specs.Tray.{head_for}
use Rattle.moving.specs.declared.terms.Move.{Move}
use Rattle.moving.specs.Move.{move_number}
use Rattle.sub_letters.specs.declared.judging.SubFault.{SubFault}
use Rattle.sub_letters.specs.Keepers.{all_keepers}
use Rattle.sub_letters.specs.Subs.{sub_reading, sub_head, froms_right}

-- 4, "a lent part has the wrong length": the keepers told, "exactly t+1", their sub-letters, a slot
abbrev pub weigh_lent : Move → ℕ → ℕ → ℕ → Bool
weigh_lent m keepers letters slot = eqb keepers (m.old.t + 1) && (eqb letters (2048 * (m.old.t + 1)) && eqb slot 2048)

-- of what is told and lent: 1, 2, 3, 4
unfoldable pub weigh_refusal : Move → List ℕ → ℕ → List ℕ → List ℕ → ℕ
weigh_refusal m keepers keeper letters slot =
    first_of (move_number m (all_keepers m.old keepers && lawful_keeper m.told.order keeper))
    (cond (weigh_lent m (length keepers) (length letters) (length slot)) 0 4)

-- what a weighing answers, in the page's numbers: one, which sub-letter it is of, and the place of a fault there
pub record Weighing : Type 0 where
  pub number : ℕ
  pub letter : ℕ
  pub place : ℕ

-- "Unless stated, every other number in a refusal's result is 0."
abbrev pub only : ℕ → Weighing
only number = record { number = number; letter = 0; place = 0 }

-- the Rust answer as that: 0 of no sub-letter where nothing is refused
abbrev pub weighing_of : Result Unit SubFault → Weighing
weighing_of (Ok done) = only 0
weighing_of (Err fault) = record { number = code fault.refusal; letter = fault.letter; place = fault.place }

-- a rule found nothing wrong, or what it says
abbrev pub FoundBy : Weighing → Result Unit SubFault → Type 0
FoundBy said (Ok done) = said.number ≡ 0
FoundBy said (Err fault) = weighing_of (Err fault) ≡ said

-- of so many sub-letters, the answer about the first that an answer refuses; where none is refused, all are answered for
abbrev pub Answered : (ℕ → Result Unit SubFault → Type 0) → ℕ → Result Unit SubFault → Type 0
Answered answers count (Ok done) = (k : ℕ) → k < count → answers k (Ok tt)
Answered answers count (Err fault) = (k : ℕ) × (k < count) × answers k (Err fault) × ((j : ℕ) → j < k → answers j (Ok tt))

pub record FirstBy (answers : ℕ → Result Unit SubFault → Type 0) (count : ℕ) (result : Result Unit SubFault) : Type 0 where
  pub answered : Answered answers count result

-- what is said first, where its number is not 0; else what is said next
abbrev pub or_next : Weighing → Weighing → Weighing
or_next one two = cond (eqb one.number 0) two one

-- the first number that a rule gives, of sub-letter k and the many behind it; 0 where it gives none
unfoldable pub first_sub : (ℕ → Weighing) → ℕ → ℕ → Weighing
first_sub rule k zero = only 0
first_sub rule k (suc many) = or_next (rule k) (first_sub rule (suc k) many)

-- a sub-letter's own 9..13, with its place
abbrev pub fault_at : List ℕ → ℕ → Weighing
fault_at letters k = record { number = number_of (sub_reading letters k); letter = k; place = place_of (sub_reading letters k) }

-- 16, "a good .. sub-letter that differs from what was told, a sub-letter's old keeper apart": by what its block 0 says, as all blocks of a good one do
abbrev pub other_at : Move → ℕ → List ℕ → ℕ → Weighing
other_at m keeper letters k =
    record { number = cond (same_head (sub_head letters k) (head_for m.told m.stamp m.length keeper)) 0 16; letter = k; place = 0 }

-- of the sub-letters: 9..13 of the first faulty one, 16 of the first that differs, then 19
unfoldable pub subs_answer : Move → List ℕ → ℕ → List ℕ → Weighing
subs_answer m keepers keeper letters =
    or_next (first_sub (fault_at letters) 0 (length keepers))
    (or_next (first_sub (other_at m keeper letters) 0 (length keepers)) (only (cond (froms_right keepers letters m.length) 0 19)))

-- the number of a weighing, which sub-letter it is of, and the place of a fault there
unfoldable pub weigh_answer : Move → List ℕ → ℕ → List ℕ → List ℕ → Weighing
weigh_answer m keepers keeper letters slot =
    cond (eqb (weigh_refusal m keepers keeper letters slot) 0) (subs_answer m keepers keeper letters) (only (weigh_refusal m keepers keeper letters slot))
