-- What is said of a tray in which letters of other keys stand.
-- Assumes nothing.
use Rattle.std.specs.Prelude.{ℕ, ◌≡◌, true, List, ◌⊎◌}
use Rattle.lists.specs.Below.{Below}
use Rattle.lists.specs.Count.{count}
use Rattle.lists.specs.From.{from}
use Rattle.lists.specs.SameBytes.{same_bytes}
use Rattle.header.specs.declared.head.Head.{Head}
use Rattle.header.specs.declared.told.Told.{Told}
use Rattle.header.specs.Order.{lawful_keeper}
use Rattle.format.specs.Reading.{Good, read_of}
use Rattle.tray.specs.Tray.{slot_of}

-- a slot that is no good letter of a key: another key's, or not good
abbrev pub OfAnother : ℕ → List ℕ → Type 0
OfAnother key slot = (h : Head) → read_of slot ≡ Good h → h.told.key ≡ key → ⊥

-- a tray in which each slot is the cut's, or no good letter of its key
pub record MixedUp (told : Told) (cut tray : List ℕ) : Type 0 where
  pub bytes : Below 256 tray
  pub slots : (x : ℕ) → lawful_keeper told.order x ≡ true → (slot_of tray x ≡ slot_of cut x) ⊎ OfAnother told.key (slot_of tray x)

-- how many of its slots are the cut's
abbrev pub own_many : Told → List ℕ → List ℕ → ℕ
own_many told cut tray = count (λ x. same_bytes (slot_of tray x) (slot_of cut x)) (from 1 told.order.n)
