-- `block::words::word_at` meets its contract: the number of bytes 2 i and 2 i + 1, high byte first, is word i.
-- Assumes nothing.
use Rattle.std.proofs.Common.{arith}
use Rattle.block.specs.WordParts.{get_d_words}
use Rattle.block.proofs.words.word_at.Goals as goal

pub returns : goal.returns
returns c = omega (arith, c.from_be_bytes.ensures, get_d_words c.args.bytes.now c.args.i c.requires)
