-- The scan of a tray: what it asks, and what it gathers.
-- Assumes nothing.
use Rattle.std.specs.Prelude.{ℕ, ◌+◌, ◌-◌, ◌*◌, ◌<◌, ◌≤◌, ◌≡◌, true, List, length, get_or}
use Rattle.lists.specs.Below.{Below}
use Rattle.lists.specs.KeeperSet.{keeper_set}
use Rattle.header.specs.declared.told.Told.{Told}
use Rattle.tray.specs.Tray.{usable, word_of}

-- at most 16 keepers and 952 words of each; a slot for each keeper; room for 16 rows of 952 field words
pub record Scannable (told : Told) (l : ℕ) (tray rows : List ℕ) : Type 0 where
  pub few : told.order.n ≤ 16
  pub short : l ≤ 952
  pub slots : length tray ≡ 2048 * told.order.n
  pub room : length rows ≡ 15232
  pub clean : Below 257 rows

-- the set of the usable keepers, and rows of 952 field words, in which a usable keeper's words stand first in its row
pub record Scanned (told : Told) (stamp l : ℕ) (tray : List ℕ) (set : ℕ) (rows : List ℕ) : Type 0 where
  pub keepers : set ≡ keeper_set (usable told stamp l tray) told.order.n
  pub size : length rows ≡ 15232
  pub below : Below 257 rows
  pub words : (x i : ℕ) → usable told stamp l tray x ≡ true → i < l → get_or rows (952 * (x - 1) + i) 0 ≡ word_of tray l x i
