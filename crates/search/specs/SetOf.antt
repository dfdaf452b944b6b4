-- A set that may have been found, as a number: none is the empty one.
-- Assumes nothing.
use Rattle.std.specs.Prelude.{ℕ, Option, None, Some}
use Rattle.search.specs.declared.keepers.KeeperSet.{KeeperSet}

abbrev pub set_of : Option KeeperSet → ℕ
set_of None = 0
set_of (Some set) = set.bits
