-- Two trays in parts of sixteen bytes, eight words.
-- Assumes nothing.
use Rattle.std.specs.Prelude.{ℕ, ◌+◌, ◌*◌, ◌<◌, ◌≤◌, ◌≡◌, Bool, not, cond, Option, Some, None, List, [], ◌∷◌, ◌++◌, map, ltb, length, take, drop}
use Rattle.lists.specs.Chosen.{chosen}
use Rattle.lists.specs.From.{from}
use Rattle.lists.specs.Patched.{patched}
use Rattle.lists.specs.SameBytes.{same_bytes}
use Rattle.compare.specs.Compare.{differs}

-- part p of a tray
abbrev pub part_of : List ℕ → ℕ → List ℕ
part_of tray p = take 16 (drop (16 * p) tray)

-- whether two trays have other bytes in part p
unfoldable pub part_differs : List ℕ → List ℕ → ℕ → Bool
part_differs first second p = not (same_bytes (part_of first p) (part_of second p))

-- the places of part p where they differ
unfoldable pub in_part : List ℕ → List ℕ → ℕ → List ℕ
in_part first second p = chosen (differs first second) (from (8 * p) 8)

-- the places of some parts where they differ, part after part
unfoldable pub in_parts : List ℕ → List ℕ → List ℕ → List ℕ
in_parts first second [] = []
in_parts first second (p ∷ ps) = in_part first second p ++ in_parts first second ps

-- so many, where they are more than there are places for; else 0
unfoldable pub beyond : ℕ → ℕ → ℕ
beyond places many = cond (ltb places many) many 0

-- that number is told only where they are more
abbrev pub Beyond : ℕ → ℕ → Option ℕ → Type 0
Beyond places many (Some words) = (words ≡ beyond places many) × (places < many)
Beyond places many None = beyond places many ≡ 0

-- so many parts are there, in both
pub record HaveParts (first second : List ℕ) (m : ℕ) : Type 0 where
  pub few : m ≤ 2048
  pub in_first : 16 * m ≤ length first
  pub in_second : 16 * m ≤ length second

-- so many parts differ, and a list of the length that it had has them in front
pub record Looked (first second : List ℕ) (m : ℕ) (old left : List ℕ) (parts : ℕ) : Type 0 where
  pub many : parts ≡ length (chosen (part_differs first second) (from 0 m))
  pub listed : take parts left ≡ chosen (part_differs first second) (from 0 m)
  pub size : length left ≡ length old

-- places laid over a list, each by a rule, from a place of it on, and what comes next behind them
pub record Laid (rule : ℕ → List ℕ) (old : List (List ℕ)) (at : ℕ) (places : List ℕ) (list : List (List ℕ)) (next : ℕ) : Type 0 where
  pub fits : at + length places ≤ length old
  pub behind : next ≡ at + length places
  pub laid : list ≡ patched old at (map rule places)
