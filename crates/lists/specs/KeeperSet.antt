-- A set of keepers as a number.
-- Assumes nothing.
use Rattle.std.specs.Prelude.{ℕ, zero, suc, ◌+◌, ◌-◌, ◌*◌, ◌/◌, ◌%◌, ◌^◌, Bool, eqb}
use Rattle.lists.specs.Count.{bit}

-- "a 16-bit set, keeper x being bit x-1": the keepers of 1..n that pass a test
unfoldable pub keeper_set : (ℕ → Bool) → ℕ → ℕ
keeper_set test zero = 0
keeper_set test (suc k) = bit (test (suc k)) * 2 ^ k + keeper_set test k

-- keeper x is in a set: "bit x-1" is 1
abbrev pub member : ℕ → ℕ → Bool
member set x = eqb (set / 2 ^ (x - 1) % 2) 1
