-- What the theorems of when the join gives a secret speak of.
-- Assumes nothing.
use Rattle.std.specs.Prelude.{ℕ, ◌≡◌, true, List}
use Rattle.lists.specs.KeeperSet.{keeper_set}
use Rattle.algebra.specs.Field.{Ops}
use Rattle.block.specs.Check.{all_at_most}
use Rattle.header.specs.declared.told.Told.{Told}
use Rattle.tray.specs.Tray.{usable, usable_many, word_of}
use Rattle.agree.specs.Agreement.{agreeing, needed, Reaches, constants}
use Rattle.join.specs.Join.{Joined}
use Rattle.join.specs.Join.{answer, hunted}

-- polynomials that reach need among the usable letters, and whose constants are bytes
pub record SecretAgreed (O : Ops) (told : Told) (stamp l : ℕ) (tray : List ℕ) (ps : List (List ℕ)) : Type 0 where
  pub reaches : Reaches O told.order.t told.order.f told.order.n (usable told stamp l tray) (word_of tray l) l ps
  pub bytes : all_at_most 255 (constants ps) ≡ true

-- the join tells of the polynomials ps: a number, m, need, the keepers that match, the trials, and what is given in the room
pub record Tells (O : Ops) (told : Told) (stamp l : ℕ) (tray : List ℕ) (ps : List (List ℕ)) (number : ℕ) (given : List ℕ) (result : Joined) (left : List ℕ) : Type 0 where
  pub answers : result ≡ answer number (usable_many told stamp l tray) (needed told.order.t told.order.f told.order.n (usable told stamp l tray))
      (keeper_set (agreeing O (usable told stamp l tray) (word_of tray l) l ps) told.order.n)
      (hunted O told.order.t told.order.f told.order.n (usable told stamp l tray) (word_of tray l) l)
  pub leaves : left ≡ given

-- it gives what they say: number 0, and their constants
abbrev pub Given : Ops → Told → ℕ → ℕ → List ℕ → List (List ℕ) → Joined → List ℕ → Type 0
Given O told stamp l tray ps result left = Tells O told stamp l tray ps 0 (constants ps) result left
