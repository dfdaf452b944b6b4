-- `block::check::exchanged_words` meets its contract: the row is filled from the front.
-- Assumes nothing.
use Rattle.std.proofs.Common.{◌≡◌, ◌<◌, ◌+◌, ◌*◌, ℕ, arith, get_or}
use Rattle.block.specs.TakenLaws.{taken_block}
use Rattle.block.specs.WordParts.{get_d_words}
use Rattle.block.specs.Words.{words_of, exchanged}
use Rattle.lists.specs.Filling.{filling_none, filling_more, filling_done}
use Rattle.block.proofs.check.exchanged_words.Goals as goal

turned : (word high low : ℕ) → word ≡ high * 256 + low → high < 256 → low < 256 → low * 256 + high ≡ exchanged word
turned word high low e h l = omega arith

pub loop-i-init : goal.loop-i-init
loop-i-init c = filling_none

pub loop-i-preserved : goal.loop-i-preserved
loop-i-preserved c =
    let block = c.args.block.now in
    let i = c.loop-i.i in
    let here =
    turned (get_or (words_of block) i 0) (get_or block (2 * i) 0) (get_or block (2 * i + 1) 0) (get_d_words block i (omega arith))
    (omega (arith, c.type_inv.block (2 * i))) (omega (arith, c.type_inv.block (2 * i + 1))) in
    filling_more c.loop-i.invariant (omega arith) (omega (arith, here, c.from_le_bytes.ensures))

pub returns : goal.returns
returns c =
    taken_block c.args.block.now (λ k h. omega (arith, c.type_inv.block k)) c.requires (filling_done c.loop-i.invariant (omega arith))
