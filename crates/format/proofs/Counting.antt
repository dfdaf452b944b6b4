-- The number of blocks that hold a letter's share words.
-- Assumes nothing.
use Prim.Native.Nat.{ℕ, ◌+◌, ◌*◌, ◌<◌, ◌≤◌}
use mathlib.Core.Path.{◌≡◌}
use native.Mathlib.Omega.{arith}
use Rattle.format.specs.Letter.{blocks_for}

pub record Counted (l count : ℕ) : Type 0 where
  pub is : count ≡ blocks_for l
  pub few : count ≤ 4
  pub needed : 238 * count < l + 238
  pub enough : l ≤ 238 * count

pub counted : (l count : ℕ) → l ≤ 952 → count ≡ blocks_for l → Counted l count
unfolding blocks_for
counted l count most e = omega arith
