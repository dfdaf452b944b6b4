-- Of a tray beside the cut's the usable slots are those unaltered and those altered.
-- Assumes nothing.
use Rattle.std.specs.Prelude.{ℕ, ◌+◌, ◌≡◌, Bool, not, List}
use Rattle.std.proofs.Common.{arith}
use Rattle.lists.specs.Chosen.{chosen, length-chosen, count-chosen}
use Rattle.lists.specs.Count.{count, count_not}
use Rattle.lists.specs.SameBytes.{same_bytes}
use Rattle.header.specs.declared.told.Told.{Told}
use Rattle.tray.specs.Tray.{slot_of, usable}
use Rattle.demands.specs.Altered.{unaltered, altered}

-- the usable slots are those unaltered and those altered
pub count-usable : (told : Told) (stamp l : ℕ) (cut tray xs : List ℕ)
    → count (unaltered told stamp l cut tray) xs + count (altered told stamp l cut tray) xs ≡ count (usable told stamp l tray) xs
count-usable told stamp l cut tray xs =
    let u = usable told stamp l tray in
    let s : ℕ → Bool = λ x. same_bytes (slot_of tray x) (slot_of cut x) in
    omega (arith, count-chosen u s xs, count-chosen u (λ x. not (s x)) xs, count_not s (chosen u xs), length-chosen u xs)
