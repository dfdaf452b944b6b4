-- `exports::reading::cs_read` meets its contract: a good head is lawful, and a fault's place is small.
-- Assumes nothing.
use Rattle.std.proofs.Common.{◌≡◌, sym, arith}
use Rattle.format.specs.Reading.{Bad, read_of}
use Rattle.format.specs.ReadingBounds.{good_lawful, small_place}
use Rattle.refusals.specs.Numbers.{code}
use Rattle.exports.proofs.reading.cs_read.Goals as goal

pub good-requires : goal.good-requires
good-requires c = good_lawful c.args.slot.now c.in-Ok.head (sym c.in-Ok.ensures)

pub overflow_cast-result : goal.overflow_cast-result
overflow_cast-result c =
    let read : read_of c.args.slot.now ≡ Bad (code c.in-Err.fault.refusal) c.in-Err.fault.place = sym c.in-Err.ensures in
    omega (arith, rw read at (small_place c.args.slot.now))
