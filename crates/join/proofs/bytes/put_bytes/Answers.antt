-- `join::bytes::put_bytes` meets its contract: the first i bytes of the room are the first i words.
-- Assumes nothing.
use Rattle.std.proofs.Common.{arith}
use Rattle.block.specs.AtMostLaws.{at_most_below}
use Rattle.lists.specs.Below.{Below}
use Rattle.join.proofs.bytes.put_bytes.Goals as goal

pub overflow_cast-room : goal.overflow_cast-room
overflow_cast-room c =
    let below : Below 256 c.args.words.now = at_most_below 255 c.args.words.now c.requires.bytes in
    omega arith
