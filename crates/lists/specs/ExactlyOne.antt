-- A list with a property, and the only one that has it.
-- Assumes nothing.
use Rattle.std.specs.Prelude.{ℕ, ◌≡◌, List}

pub record ExactlyOne (P : List ℕ → Type 0) : Type 0 where
  pub one : List ℕ
  pub holds : P one
  pub only : (other : List ℕ) → P other → other ≡ one
