-- `block::words::put_words` meets its contract: turn by turn the first i words lie over the bytes, and nothing else changes.
-- Assumes nothing.
use Rattle.std.proofs.Common.{◌*◌, ◌≡◌, take}
use Rattle.block.specs.Words.{bytes_of}
use Rattle.lists.specs.Patched.{patched}
use Rattle.block.proofs.words.put_words.Given as goal

abbrev pub invariant-loop-i : goal.invariant-loop-i
invariant-loop-i l = l.bytes ≡ patched l.initial.bytes (2 * l.from) (bytes_of (take l.i l.words))
