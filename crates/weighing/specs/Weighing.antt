-- The weighing of sub-letters into a letter.
-- Assumes nothing.
use Rattle.std.specs.Prelude.{ℕ, suc, ◌≡◌, cond, List, eqb, length, get_or}
use Rattle.lists.specs.Listed.{listed}
use Rattle.algebra.specs.Combine.{factors}
use Rattle.algebra.specs.Field.{Ops}
use Rattle.algebra.specs.Mixed.{mixed}
use Rattle.format.specs.Letter.{letter_bytes}
use Rattle.format.specs.Reading.{shares_of}
use Rattle.tray.specs.Tray.{slot_of, head_for}
use Rattle.moving.specs.declared.terms.Move.{Move}
use Rattle.sub_letters.specs.Judging.{Weighing}
use Rattle.sub_letters.specs.Judging.{weigh_answer}
use Rattle.sub_letters.specs.Subs.{froms_of}

-- "weighs the t+1 sub-letters with the factors that carry the old values to zero, and adds them": word i of each, times the factor of the old keeper
-- that it names among those that all of them name
unfoldable pub weighed_words : Ops → List ℕ → ℕ → ℕ → List ℕ
weighed_words O letters count l =
    listed (λ i. mixed O (factors O (froms_of letters count) 0) count (λ k. get_or (shares_of (slot_of letters (suc k)) l) i 0)) l

-- the new keeper's letter
unfoldable pub weighed_letter : Ops → Move → ℕ → List ℕ → ℕ → List ℕ
weighed_letter O m keeper letters count =
    letter_bytes (head_for m.told m.stamp m.length keeper) (weighed_words O letters count m.length)

-- what a weighing answers and leaves: its numbers, and the slot, which only 0 changes
pub record WeighDone (O : Ops) (m : Move) (keepers : List ℕ) (keeper : ℕ) (letters slot : List ℕ) (answer : Weighing) (left : List ℕ) : Type 0 where
  pub answers : answer ≡ weigh_answer m keepers keeper letters slot
  pub leaves : left ≡ cond (eqb answer.number 0) (weighed_letter O m keeper letters (length keepers)) slot
