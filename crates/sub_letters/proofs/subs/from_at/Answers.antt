-- `sub_letters::subs::from_at` meets its contract: word 14 of the block of the sub-letter.
-- Assumes nothing.
use Rattle.std.proofs.Common.{◌∙◌, add-one}
use Rattle.sub_letters.specs.SubLaws.{slot_size}
use Rattle.sub_letters.proofs.subs.from_at.Goals as goal

pub block_at-requires : goal.block_at-requires
block_at-requires c = (slot_size c.slot_of.ensures c.requires.0, c.requires.1)

pub returns : goal.returns
returns c = c.word_at.ensures ∙ rw (c.block_at.ensures.0, c.slot_of.ensures, add-one)
