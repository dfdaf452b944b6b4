-- A tray in which keepers 1, 2 and so on hold letters of given share words, and the other slots are zeros.
-- Assumes nothing.
use Rattle.std.specs.Prelude.{ℕ, suc, ◌<◌, ◌≡◌, true, cond, List, [], ltb, length, get_or}
use Rattle.lists.specs.Below.{Below}
use Rattle.lists.specs.Pieces.{pieces}
use Rattle.header.specs.declared.told.Told.{Told}
use Rattle.header.specs.Told.{lawful_told}
use Rattle.header.specs.Terms.{lawful_stamp, lawful_length}
use Rattle.format.specs.Letter.{letter_bytes}
use Rattle.format.specs.Zeros.{zero_slot}
use Rattle.tray.specs.Tray.{head_for}

-- keeper k+1's slot: the letter of its row, or zeros where there is none
unfoldable pub held_slot : Told → ℕ → ℕ → List (List ℕ) → ℕ → List ℕ
held_slot told stamp l rows k = cond (ltb k (length rows)) (letter_bytes (head_for told stamp l (suc k)) (get_or rows k [])) zero_slot

-- the slots of keepers 1..n
unfoldable pub held_tray : Told → ℕ → ℕ → List (List ℕ) → List ℕ
held_tray told stamp l rows = pieces (held_slot told stamp l rows) told.order.n

-- letters that can be written: a lawful order, key, stamp and length, and l field words for each keeper that holds one
pub record Held (told : Told) (stamp l : ℕ) (rows : List (List ℕ)) : Type 0 where
  pub told_lawful : lawful_told told ≡ true
  pub stamp_lawful : lawful_stamp stamp ≡ true
  pub length_lawful : lawful_length l ≡ true
  pub size : (k : ℕ) → k < length rows → length (get_or rows k []) ≡ l
  pub below : (k : ℕ) → k < length rows → Below 257 (get_or rows k [])
