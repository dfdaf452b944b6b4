-- So many sub-letters, lent end to end.
-- Assumes nothing.
use Rattle.std.specs.Prelude.{ℕ, ◌*◌, ◌≤◌, List, length}

pub record SubsLent (letters : List ℕ) (count : ℕ) : Type 0 where
  pub few : count ≤ 8
  pub size : 2048 * count ≤ length letters
