-- The slots of a tray: their length, and that they hold bytes where it does.
-- Assumes nothing.
use Rattle.std.specs.Prelude.{ℕ, ◌-◌, ◌*◌, ◌≤◌, ◌≡◌, List, length, drop}
use Rattle.std.proofs.Common.{arith, length-take, length-drop}
use Rattle.lists.specs.Below.{Below, below_take, below_drop}
use Rattle.tray.specs.Tray.{slot_of}

module _ (tray : List ℕ) (x : ℕ) where
  pub length-slot : 1 ≤ x → 2048 * x ≤ length tray → length (slot_of tray x) ≡ 2048
  unfolding slot_of
  length-slot least most = rw (length-take, length-drop) (omega arith)

  pub below_slot : (q : ℕ) → Below q tray → Below q (slot_of tray x)
  unfolding slot_of
  below_slot q b = below_take q 2048 (drop (2048 * (x - 1)) tray) (below_drop q (2048 * (x - 1)) tray b)
