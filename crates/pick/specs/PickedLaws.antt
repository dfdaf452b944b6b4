-- What is picked is the length of a letter, so it is at most 952.
-- Assumes nothing.
use Rattle.std.specs.Prelude.{ℕ, ◌+◌, ◌≤◌, List}
use Rattle.std.proofs.Common.{arith}
use Rattle.algebra.specs.Field.{Ops}
use Rattle.header.specs.declared.told.Told.{Told}
use Rattle.header.specs.TermsLaws.{TermsFacts}
use Rattle.tray.specs.Tray.{usable}
use Rattle.tray.proofs.UsableLaws.{usable_facts}
use Rattle.pick.specs.Pick.{Picked}
use Rattle.pick.specs.Passing.{some_passing}
use Rattle.pick.specs.Pick.{Large, PickDone, refused, none, chosen, stuck}

-- a large group has a letter, so its stamp and length are those of a letter
pub large_terms : (told : Told) (tray : List ℕ) (stamp l : ℕ) → Large told tray stamp l → TermsFacts told stamp l
large_terms told tray stamp l large =
    let one = some_passing (usable told stamp l tray) told.order.n (omega arith) in
    (usable_facts told stamp l tray (one.place + 1) one.passes).of_terms

pub picked-length : {O : Ops} {told : Told} {tray : List ℕ} {result : Picked} → PickDone O told tray result → result.length ≤ 952
picked-length (refused p) = omega arith
picked-length (none e f) = omega arith
picked-length {told = told} {tray} (chosen stamp l e first) = (large_terms told tray stamp l first.has.large).length_most
picked-length {told = told} {tray} (stuck number stamp l e never first J) = (large_terms told tray stamp l first.has).length_most
