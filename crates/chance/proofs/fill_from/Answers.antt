-- `chance::fill_from` meets its contract: turn by turn the words of the first i draws are laid over those that stood there.
-- Assumes nothing.
use Rattle.std.proofs.Common.{◌≡◌, sym, ◌∙◌, arith, length, take_all}
use Rattle.block.specs.WordParts.{length-words, get_d_words}
use Rattle.block.specs.Words.{words_of}
use Rattle.chance.specs.LaidLaws.{drawn_more, laid_more}
use Rattle.chance.proofs.fill_from.Goals as goal

pub loop-i-preserved : goal.loop-i-preserved
loop-i-preserved c =
    let here = c.loop-i in
    let bytes = c.args.bytes.now in
    let size : length bytes ≡ 256 = c.requires.bytes_len in
    let draws = words_of bytes in
    let draw = c.from_be_bytes-draw.ensures ∙ sym (get_d_words bytes here.i (omega arith)) in
    let one = rw draw at c.put-count.ensures.laid in
    let more = drawn_more draws here.i (omega (arith, length-words bytes)) in
    (c.put-count.auto.words ∙ here.invariant.0, c.put-count.ensures.begun, rw more (laid_more c.requires.begun.within here.invariant.2 one))

pub returns-clause-laid : goal.returns-clause-laid
returns-clause-laid c =
    let here = c.loop-i in
    let bytes = c.args.bytes.now in
    let size : length bytes ≡ 256 = c.requires.bytes_len in
    let all = take_all here.i (words_of bytes) (omega (arith, length-words bytes)) in
    rw all at here.invariant.2
