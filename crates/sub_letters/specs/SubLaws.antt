-- Of sub-letters lent end to end: those before one, and the size of each.
-- Assumes nothing.
use Rattle.std.specs.Prelude.{ℕ, suc, ◌+◌, ◌≤◌, ◌≡◌, List, length}
use Rattle.std.proofs.Common.{arith}
use Rattle.tray.specs.Tray.{slot_of}
use Rattle.tray.specs.SlotLaws.{length-slot}
use Rattle.sub_letters.specs.Lent.{SubsLent}

pub subs_before : {letters : List ℕ} {many count : ℕ} → SubsLent letters count → many ≤ count → SubsLent letters many
subs_before lent few = record { few = omega arith; size = omega arith }

pub slot_size : {letters slot : List ℕ} {k : ℕ} → slot ≡ slot_of letters (k + 1) → SubsLent letters (suc k) → length slot ≡ 2048
slot_size {letters} {slot} {k} e lent = rw e (length-slot letters (k + 1) (omega arith) (omega arith))
