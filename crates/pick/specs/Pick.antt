-- The pick: which stamp and length of a tray to join.
-- Assumes nothing.
use Rattle.std.specs.Prelude.{ℕ, ◌+◌, ◌*◌, ◌≤◌, ◌<◌, ◌≡◌, ◌⊎◌, cond, List, eqb, length, replicate}
use Rattle.algebra.specs.Field.{Ops}
use Rattle.refusals.specs.Numbers.{code_of}
use Rattle.header.specs.declared.told.Told.{Told}
use Rattle.header.specs.Told.{lawful_told}
use Rattle.tray.specs.Tray.{usable_many}
use Rattle.join.specs.Join.{Joined, JoinDone}
use Rattle.pick.specs.declared.Picked.{Picked as Chosen}

-- "Good letters in a tray, of the order and in their own keeper's slot, are grouped by stamp and length": the group is what is usable under them, so
-- its letters are of the key too. A group "of at least t+f+1"
abbrev pub Large : Told → List ℕ → ℕ → ℕ → Type 0
Large told tray stamp l = told.order.t + told.order.f + 1 ≤ usable_many told stamp l tray

-- what the join of a group gives: the number that the join promises for its stamp and length, in a room of l zeros
pub record JoinGives (O : Ops) (told : Told) (tray : List ℕ) (stamp l number : ℕ) : Type 0 where
  pub result : Joined
  pub left : List ℕ
  pub done : JoinDone O told stamp l tray (replicate l 0) result left
  pub numbered : result.number ≡ number

-- a group of at least t+f+1 "whose join gives 0"
pub record Joining (O : Ops) (told : Told) (tray : List ℕ) (stamp l : ℕ) : Type 0 where
  pub large : Large told tray stamp l
  pub joins : JoinGives O told tray stamp l 0

-- "greatest stamp first, then greatest length": s and k do not come before stamp and l
abbrev pub NotBefore : ℕ → ℕ → ℕ → ℕ → Type 0
NotBefore s k stamp l = (s < stamp) ⊎ ((s ≡ stamp) × (k ≤ l))

-- the first, in that order, of all that have a property
pub record First (property : ℕ → ℕ → Type 0) (stamp l : ℕ) : Type 0 where
  pub has : property stamp l
  pub rest : (s k : ℕ) → property s k → NotBefore s k stamp l

-- the refusals that need no letter: 1, of the order or the key, and 4
unfoldable pub pick_refusal : Told → List ℕ → ℕ
pick_refusal told tray = cond (lawful_told told) (cond (eqb (length tray) (2048 * told.order.n)) 0 4) 1

-- what the pick answers, in the page's numbers: one, and the stamp and length of the group
pub record Picked : Type 0 where
  pub number : ℕ
  pub stamp : ℕ
  pub length : ℕ

-- what the pick chose, as that
abbrev pub picked_of : Chosen → Picked
picked_of r = record { number = code_of r.outcome; stamp = r.stamp; length = r.length }

-- the number, and the stamp and length of the group
abbrev pub picked : ℕ → ℕ → ℕ → Picked
picked number stamp l = record { number = number; stamp = stamp; length = l }

-- The pick's promise: a refusal; 6 where no group is large; the first of the large groups "whose join gives 0"; or, "if there are groups and none
-- joins", "the number of the greatest group's join with its stamp and length".
pub data PickDone (O : Ops) (told : Told) (tray : List ℕ) : Picked → Type 0 where
  refused : (pick_refusal told tray ≡ 0 → ⊥) → PickDone O told tray (picked (pick_refusal told tray) 0 0)
  none : pick_refusal told tray ≡ 0 → ((stamp l : ℕ) → Large told tray stamp l → ⊥) → PickDone O told tray (picked 6 0 0)
  chosen : (stamp l : ℕ) → pick_refusal told tray ≡ 0 → First (Joining O told tray) stamp l → PickDone O told tray (picked 0 stamp l)
  stuck : (number stamp l : ℕ) → pick_refusal told tray ≡ 0 → ((s k : ℕ) → Joining O told tray s k → ⊥) → First (Large told tray) stamp l
      → JoinGives O told tray stamp l number → PickDone O told tray (picked number stamp l)
