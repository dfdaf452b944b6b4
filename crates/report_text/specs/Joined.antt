-- What is asked of a tray to join what was picked of it, and what the report of the join is.
-- Assumes nothing.
use Rattle.std.specs.Prelude.{ℕ, ◌*◌, ◌≤◌, ◌≡◌, List, length, replicate}
use Rattle.field.specs.Modulo.{mod257}
use Rattle.header.specs.declared.told.Told.{Told}
use Rattle.join.specs.Join.{Joined}
use Rattle.join.specs.Join.{JoinDone}
use Rattle.report_text.specs.Report.{lines}

-- at most 16 keepers, a slot for each, a lawful key and at most 952 words
pub record Joinable (told : Told) (l : ℕ) (tray : List ℕ) : Type 0 where
  pub few : told.order.n ≤ 16
  pub small : told.key ≤ 255
  pub short : l ≤ 952
  pub slots : length tray ≡ 2048 * told.order.n

-- the lines of the join, and its number
pub record JoinedReported (told : Told) (stamp l : ℕ) (tray : List ℕ) (number : ℕ) (bytes : List ℕ) : Type 0 where
  pub result : Joined
  pub left : List ℕ
  pub done : JoinDone mod257 told stamp l tray (replicate l 0) result left
  pub written : bytes ≡ lines told tray stamp l result
  pub numbered : number ≡ result.number
