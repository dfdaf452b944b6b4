-- `compare::put::put` meets its contract, part by part.
-- Assumes nothing.
use Rattle.std.proofs.Common.{arith}
use Rattle.compare.proofs.Putting.{laid_size, parts_none, parts_all, parts-room, parts_more}
use Rattle.compare.proofs.PartLaws.{have_fewer}
use Rattle.compare.proofs.put.put.Goals as goal

pub loop-part-init : goal.loop-part-init
loop-part-init c = parts_none

pub put_part-next-requires : goal.put_part-next-requires
put_part-next-requires c =
    let here = c.loop-part in
    record {
      have_parts = rw c.from.ensures (have_fewer c.requires.have_parts (c.requires.parts_below here.part-index (omega arith)));
      room = rw c.from.ensures (parts-room here.invariant c.requires.room (omega arith));
    }

pub loop-part-preserved : goal.loop-part-preserved
loop-part-preserved c = parts_more c.loop-part.invariant c.requires.room (omega arith) (rw c.from.ensures at c.put_part-next.ensures)

pub shape_of-list : goal.shape_of-list
shape_of-list c = laid_size c.loop-part.invariant.laid_parts

pub returns : goal.returns
returns c = parts_all c.loop-part.invariant (omega arith)
