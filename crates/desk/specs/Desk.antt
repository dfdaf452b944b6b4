-- The keeper's desk: one held slot, and what storing a letter and fetching do.
-- Assumes nothing.
use Rattle.std.specs.Prelude.{ℕ, ◌≡◌, Bool, cond, ◌&&◌, List, [], Option, Some, None, Result, Ok, Err, eqb, ltb, length}
use Rattle.lists.specs.SameBytes.{same_bytes}
use Rattle.refusals.specs.Numbers.{code}
use Rattle.header.specs.declared.told.Told.{Told}
use Rattle.header.specs.declared.head.Head.{Head}
use Rattle.header.specs.FirstOf.{first_of}
use Rattle.header.specs.Order.{lawful_keeper}
use Rattle.header.specs.Told.{lawful_told, same_told}
use Rattle.format.specs.declared.reader.Fault.{Fault}
use Rattle.format.specs.Reading.{Reading, Good, Bad, read_of, number_of, place_of, read_head}

-- a head of this desk's order, key and keeper
abbrev pub of_desk : Told → ℕ → Head → Bool
of_desk told keeper h = same_told h.told told && eqb h.keeper keeper

-- The stamp of what a slot reads as, where that is a good letter for this desk, and 0 where it is not: no letter has stamp 0.
abbrev pub stamp_in : Told → ℕ → Reading → ℕ
stamp_in told keeper (Good h) = cond (of_desk told keeper h) h.stamp 0
stamp_in told keeper (Bad number place) = 0

-- "A held slot that isn't good for this desk counts as empty."
unfoldable pub stamp_held : Told → ℕ → List ℕ → ℕ
stamp_held told keeper slot = stamp_in told keeper (read_of slot)

-- no letter has stamp 0
abbrev pub stamp_or_none : Option ℕ → ℕ
stamp_or_none (Some stamp) = stamp
stamp_or_none None = 0

-- 1: "order not lawful, or the desk's keeper number outside 1..n"; "1 also for a key number above 255"
abbrev pub desk_right : Told → ℕ → Bool
desk_right told keeper = lawful_told told && lawful_keeper told.order keeper

-- a good letter of this desk against the held one: 14, "older than the letter held"; 15, "same stamp as the letter held, other bytes";
-- "A greater stamp replaces it; equal bytes give 0 and no change."
abbrev pub against : ℕ → ℕ → Bool → ℕ
against stamp held same = cond (ltb held stamp) 0 (cond (ltb stamp held) 14 (cond same 0 15))

-- what a letter is found to be: "the letter's own 9..13", 16, "a good letter, but not of this desk's order and keeper", and "a letter for another key
-- gets 16 at the desk", then 14, 15
abbrev pub offered : Told → ℕ → List ℕ → List ℕ → Reading → ℕ
offered told keeper held letter reading =
    first_of (number_of reading)
    (cond (of_desk told keeper (read_head reading)) (against (read_head reading).stamp (stamp_held told keeper held) (same_bytes held letter)) 16)

-- "A stored letter is judged in this order: 1, 4, the letter's own 9..13 (with its place), 16, 14, 15."
unfoldable pub store_number : Told → ℕ → List ℕ → List ℕ → ℕ
store_number told keeper held letter =
    cond (desk_right told keeper)
    (cond (eqb (length held) 2048 && eqb (length letter) 2048)
    (offered told keeper held letter (read_of letter))
    4)
    1

-- the place of a fault in the letter; 0 for every other number
unfoldable pub store_place : Told → ℕ → List ℕ → List ℕ → ℕ
store_place told keeper held letter = cond (desk_right told keeper && (eqb (length held) 2048 && eqb (length letter) 2048)) (place_of (read_of letter)) 0

-- the slot held afterwards
unfoldable pub store_leaves : Told → ℕ → List ℕ → List ℕ → List ℕ
store_leaves told keeper held letter = cond (eqb (store_number told keeper held letter) 0) letter held

-- what storing answers, in the page's numbers: one, and the place of a fault in the letter
pub record Stored : Type 0 where
  pub number : ℕ
  pub place : ℕ

-- 0 and 0 where nothing is refused
abbrev pub stored_of : Result Unit Fault → Stored
stored_of (Ok done) = record { number = 0; place = 0 }
stored_of (Err fault) = record { number = code fault.refusal; place = fault.place }

-- what storing answers and leaves: its number, the place, and the slot, which only 0 changes
pub record StoreDone (told : Told) (keeper : ℕ) (held letter : List ℕ) (result : Stored) (left : List ℕ) : Type 0 where
  pub number : result.number ≡ store_number told keeper held letter
  pub place : result.place ≡ store_place told keeper held letter
  pub leaves : left ≡ store_leaves told keeper held letter

-- "Fetch hands back the held slot ..; it refuses with 1, 4 or 17, in that order and with an empty part." 17: "nothing good is held"
unfoldable pub fetch_number : Told → ℕ → List ℕ → ℕ
fetch_number told keeper held =
    cond (desk_right told keeper)
    (cond (eqb (length held) 2048)
    (cond (ltb 0 (stamp_held told keeper held)) 0 17)
    4)
    1

-- the part handed back
unfoldable pub fetched : Told → ℕ → List ℕ → List ℕ
fetched told keeper held = cond (eqb (fetch_number told keeper held) 0) held []
