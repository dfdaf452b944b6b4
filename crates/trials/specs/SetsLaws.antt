-- A set of so many different numbers of a list.
-- Assumes nothing.
use Rattle.std.specs.Prelude.{ℕ, ◌≡◌, List, length}
use Rattle.lists.specs.Different.{Different}
use Rattle.lists.specs.Member.{In}

pub record SetOf (k : ℕ) (xs z : List ℕ) : Type 0 where
  pub size : length z ≡ k
  pub within : (x : ℕ) → In x z → In x xs
  pub different : Different xs → Different z
