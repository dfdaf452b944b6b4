-- A tray, and which of its slots are usable.
-- Assumes nothing.
use Rattle.std.specs.Prelude.{ℕ, ◌-◌, ◌*◌, Bool, false, List, get_or, take, drop}
use Rattle.lists.specs.Count.{count}
use Rattle.lists.specs.From.{from}
use Rattle.header.specs.declared.told.Told.{Told}
use Rattle.header.specs.declared.head.Head.{Head}
use Rattle.header.specs.Head.{same_head}
use Rattle.format.specs.Reading.{Reading, Good, Bad, read_of, shares_of}

-- "A tray is n slots, slot number x belonging to keeper x." A slot is 2,048 bytes.
unfoldable pub slot_of : List ℕ → ℕ → List ℕ
slot_of tray x = take 2048 (drop (2048 * (x - 1)) tray)

-- the head that keeper x's letter has
abbrev pub head_for : Told → ℕ → ℕ → ℕ → Head
head_for told stamp l x = record { told = told; keeper = x; stamp = stamp; length = l }

-- good, with just this head
abbrev pub reads_as : Reading → Head → Bool
reads_as (Good h) asked = same_head h asked
reads_as (Bad number place) asked = false

-- "A slot is usable if its letter reads as good and has this order, stamp and length and this slot's keeper number." Of the key: "a usable letter
-- must carry it"
unfoldable pub usable : Told → ℕ → ℕ → List ℕ → ℕ → Bool
usable told stamp l tray x = reads_as (read_of (slot_of tray x)) (head_for told stamp l x)

-- "With m usable": how many slots are
abbrev pub usable_many : Told → ℕ → ℕ → List ℕ → ℕ
usable_many told stamp l tray = count (usable told stamp l tray) (from 1 told.order.n)

-- word i of keeper x's letter of l
unfoldable pub word_of : List ℕ → ℕ → ℕ → ℕ → ℕ
word_of tray l x i = get_or (shares_of (slot_of tray x) l) i 0
