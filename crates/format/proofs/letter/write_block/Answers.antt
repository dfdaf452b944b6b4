-- `format::letter::write_block` meets its contract: header words, share words and zeros are laid one after the other, and sealed.
-- Assumes nothing.
use Rattle.std.proofs.Common.{ap, ◌∙◌}
use Rattle.block.specs.Check.{sealed}
use Rattle.block.specs.Words.{bytes_of}
use Rattle.format.proofs.Laying.{block_laid}
use Rattle.format.proofs.letter.write_block.Goals as goal

pub returns : goal.returns
returns c =
    let a = c.args in
    let header = rw c.words-header.ensures at c.put_words.ensures in
    c.seal.ensures
    ∙ ap (λ ws. bytes_of (sealed ws))
    (block_laid a.mark a.from a.h a.p a.shares.now a.block.now c.requires.2 c.requires.3 _ _ _ header c.put_words-2.ensures c.put_words-3.ensures)
