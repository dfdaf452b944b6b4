-- A tray beside the cut's: which of its usable slots differ from the cut.
-- Assumes nothing.
use Rattle.std.specs.Prelude.{ℕ, ◌+◌, ◌*◌, ◌≤◌, Bool, not, ◌&&◌, List, ◌⊎◌}
use Rattle.lists.specs.Below.{Below}
use Rattle.lists.specs.Count.{count}
use Rattle.lists.specs.From.{from}
use Rattle.lists.specs.SameBytes.{same_bytes}
use Rattle.header.specs.declared.told.Told.{Told}
use Rattle.tray.specs.Tray.{slot_of, usable, usable_many}

-- keeper x's slot is usable, and is the cut's
abbrev pub unaltered : Told → ℕ → ℕ → List ℕ → List ℕ → ℕ → Bool
unaltered told stamp l cut tray x = usable told stamp l tray x && same_bytes (slot_of tray x) (slot_of cut x)

-- keeper x's slot is usable, and differs from the cut's
abbrev pub altered : Told → ℕ → ℕ → List ℕ → List ℕ → ℕ → Bool
altered told stamp l cut tray x = usable told stamp l tray x && not (same_bytes (slot_of tray x) (slot_of cut x))

-- "Take a cut tray, alter any slots so that at most f usable ones differ from the cut, and make any others unusable."
pub record AtMostAltered (told : Told) (stamp l : ℕ) (cut tray : List ℕ) : Type 0 where
  pub bytes : Below 256 tray
  pub few : count (altered told stamp l cut tray) (from 1 told.order.n) ≤ told.order.f

-- how many of the usable slots are unaltered
abbrev pub unaltered_many : Told → ℕ → ℕ → List ℕ → List ℕ → ℕ
unaltered_many told stamp l cut tray = count (unaltered told stamp l cut tray) (from 1 told.order.n)

-- "if m is at least t+2f+1, and also for smaller m if at least t+f+1 usable letters are unaltered"
abbrev pub EnoughLeft : Told → ℕ → ℕ → List ℕ → List ℕ → Type 0
EnoughLeft told stamp l cut tray = (told.order.t + 2 * told.order.f + 1 ≤ usable_many told stamp l tray) ⊎ (told.order.t + told.order.f + 1 ≤ unaltered_many told stamp l cut tray)
