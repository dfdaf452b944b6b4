-- `join::bytes::put_bytes` meets its contract: the first i bytes of the room are the first i words.
-- Assumes nothing.
use Rattle.std.proofs.Common.{◌≡◌, length, take}
use Rattle.join.proofs.bytes.put_bytes.Given as goal

abbrev pub invariant-loop-i : goal.invariant-loop-i
invariant-loop-i l = (length l.room ≡ length l.words) × (take l.i l.room ≡ take l.i l.words)
