-- `tray::scan` meets its contract, keeper by keeper. A slot is usable as it reads.
-- Assumes nothing.
use Rattle.std.proofs.Common.{sym, ap, ◌∙◌, arith, length-take}
use Rattle.format.specs.Reading.{read_of}
use Rattle.header.specs.Equal.{head_eq}
use Rattle.tray.proofs.Scanning.{scanned_none, scanned_skipped, slot_size, room_for_bit, scanned_joined, scanned_all}
use Rattle.tray.proofs.UsableLaws.{usable_as}
use Rattle.tray.proofs.scan.Goals as goal
use Rattle.tray.proofs.scan.Goals.{then-eq, else-eq}

pub loop-k-init : goal.loop-k-init
loop-k-init c = scanned_none c.requires

pub loop-k-preserved-in_default : goal.loop-k-preserved-in_default
loop-k-preserved-in_default c =
    let read = ap read_of (sym c.slot_of-slot.ensures) ∙ sym c.in_default.ensures in
    scanned_skipped c.requires c.loop-k.invariant c.loop-k-test.true (usable_as _ _ _ _ _ _ read)

pub take_shares-requires : goal.take_shares-requires
take_shares-requires c = (slot_size c.requires c.loop-k.invariant c.loop-k-test.true c.slot_of-slot.ensures, rw length-take (omega arith))

pub overflow_add-set : goal.overflow_add-set
overflow_add-set c = record { fits = room_for_bit c.requires c.loop-k.invariant c.loop-k-test.true }

pub loop-k-preserved : goal.loop-k-preserved
loop-k-preserved c =
    let read = ap read_of (sym c.slot_of-slot.ensures) ∙ sym c.in-Ok.ensures in
    let suits = usable_as _ _ _ _ _ _ read ∙ (rw c.head_for.ensures at (sym (head_eq c.in-Ok.head c.head_for.result _ c.eq.ensures))) in
    elim c.if-eq.branch [
      | then-eq w ↦ rw (w.rows-is, w.set-is)
          (scanned_joined c.requires c.loop-k.invariant c.loop-k-test.true (suits ∙ w.if-eq.true) (λ i h. omega (arith, c.type_inv.tray i)) c.slot_of-slot.ensures w.take_shares.ensures)
      | else-eq w ↦ rw (w.rows-is, w.set-is) (scanned_skipped c.requires c.loop-k.invariant c.loop-k-test.true (suits ∙ w.if-eq.false))
    ]

pub returns : goal.returns
returns c = scanned_all c.requires c.loop-k.invariant c.loop-k-test.false
