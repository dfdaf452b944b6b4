-- What the old keepers of a move hold.
-- Assumes nothing.
use Rattle.std.specs.Prelude.{ℕ, List, get_or}
use Rattle.format.specs.Reading.{shares_of}
use Rattle.tray.specs.Tray.{slot_of}

-- the l share words that each of these old keepers holds in a tray, in their order
abbrev pub held_in : List ℕ → ℕ → List ℕ → ℕ → List ℕ
held_in tray l froms k = shares_of (slot_of tray (get_or froms k 0)) l
