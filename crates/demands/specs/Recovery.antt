-- What demand 2 speaks of: what the join tells of a cut.
-- Assumes nothing.
use Rattle.std.specs.Prelude.{ℕ, ◌≡◌, List, length}
use Rattle.lists.specs.KeeperSet.{keeper_set}
use Rattle.header.specs.declared.told.Told.{Told}
use Rattle.tray.specs.Tray.{usable, usable_many}
use Rattle.agree.specs.Agreement.{needed}
use Rattle.join.specs.Join.{Joined}
use Rattle.join.specs.Join.{answer}
use Rattle.demands.specs.Altered.{unaltered}

-- the join tells of the cut: a number, m, need, the usable keepers whose letters are unaltered, and what is given in the room; of the trials
-- `lowest_first` speaks, and with 0 `unaltered_first`
pub record TellsCut (told : Told) (stamp l : ℕ) (cut tray : List ℕ) (number : ℕ) (given : List ℕ) (result : Joined) (left : List ℕ) : Type 0 where
  pub answers : result ≡ answer number (usable_many told stamp l tray) (needed told.order.t told.order.f told.order.n (usable told stamp l tray))
      (keeper_set (unaltered told stamp l cut tray) told.order.n) result.trials
  pub leaves : left ≡ given

-- it gives the secret back: number 0, and the secret
abbrev pub GivesBack : Told → ℕ → List ℕ → List ℕ → List ℕ → Joined → List ℕ → Type 0
GivesBack told stamp secret cut tray result left = TellsCut told stamp (length secret) cut tray 0 secret result left
