-- The usable keepers that are left past keeper `next`, and what the count of the sets asks there.
-- Assumes nothing.
use Prim.Native.Nat.{ℕ, ◌+◌, ◌-◌, ◌≤◌}
use Rattle.std.specs.Prelude.{◌≡◌, true, List, length}
use Rattle.lists.specs.Chosen.{chosen}
use Rattle.lists.specs.Count.{count}
use Rattle.lists.specs.From.{from}
use Rattle.lists.specs.KeeperSet.{member}

abbrev pub left : ℕ → ℕ → List ℕ
left usable next = chosen (member usable) (from (next + 1) (16 - next))

-- so many are left, and enough of them are of the set
pub record Counting (usable set lack next many : ℕ) : Type 0 where
  pub small : lack ≤ 8
  pub bound : next ≤ 16
  pub size : many ≡ length (left usable next)
  pub enough : lack ≤ count (member set) (left usable next)

-- the next keeper is usable, and the set lacks some
pub record Met (usable set lack next many : ℕ) : Type 0 where
  pub counting : Counting usable set lack next many
  pub lacks : lack ≡ 0 → ⊥
  pub of : member usable (next + 1) ≡ true
