-- What it is that an older write is read.
-- Assumes nothing.
use Rattle.std.specs.Prelude.{ℕ, ◌≡◌, List, length}
use Rattle.algebra.specs.Field.{Ops}
use Rattle.header.specs.declared.told.Told.{Told}
use Rattle.join.specs.Join.{Joined}
use Rattle.join.specs.Join.{JoinDone}
use Rattle.pick.specs.Pick.{Picked}
use Rattle.pick.specs.Pick.{picked}
use Rattle.demands.specs.Recovery.{GivesBack}

-- the pick names a write, and the join of what is named gives its secret back
pub record Read (O : Ops) (told : Told) (stamp : ℕ) (secret cut tray : List ℕ) (p : Picked) : Type 0 where
  pub names : p ≡ picked 0 stamp (length secret)
  pub gives : (room left : List ℕ) (result : Joined) → length room ≡ p.length → JoinDone O told p.stamp p.length tray room result left
      → GivesBack told stamp secret cut tray result left
