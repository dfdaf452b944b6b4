-- `format::reader::read_on` meets its contract, block by block: what the blocks from place 1 on come to, the blocks from here on come to.
-- Assumes nothing.
use Rattle.std.proofs.Common.{◌≡◌, refl, sym, ap, ◌∙◌, arith}
use Rattle.refusals.specs.Numbers.{code_of, code_some}
use Rattle.format.proofs.Judging.{good_block, bad_block, judged_all}
use Rattle.format.specs.Reading.{block_words, letter_block_number, ending}
use Rattle.format.proofs.reader.read_on.Goals as goal

pub returns-in-Err : goal.returns-in-Err
returns-in-Err c =
    let found : let a = c.args in
    code_of c.judge_block.result ≡ letter_block_number a.mark a.most a.first c.loop-place.place (block_words a.slot.now c.loop-place.place) =
    rw c.block_at.ensures.0 at c.judge_block.ensures in
    let number = sym (ap code_of c.in-Err.is) ∙ found in
    sym (c.loop-place.invariant ∙ bad_block _ _ _ _ _ _ number (omega arith) (code_some c.in-Err.refusal))

pub loop-place-preserved : goal.loop-place-preserved
loop-place-preserved c =
    let found : let a = c.args in
    code_of c.judge_block.result ≡ letter_block_number a.mark a.most a.first c.loop-place.place (block_words a.slot.now c.loop-place.place) =
    rw c.block_at.ensures.0 at c.judge_block.ensures in
    let number = sym (ap code_of c.in_default.is) ∙ found in
    c.loop-place.invariant ∙ good_block _ _ _ _ _ 0 number (omega arith) refl

pub returns-then-not-ends_in_zeros : goal.returns-then-not-ends_in_zeros
unfolding ending
returns-then-not-ends_in_zeros c =
    sym (c.loop-place.invariant ∙ judged_all _ _ _ _ _ (omega arith) ∙ rw (← c.ends_in_zeros.ensures, c.if-not-ends_in_zeros.true, c.from.ensures))

pub returns : goal.returns
unfolding ending
returns c =
    sym (c.loop-place.invariant ∙ judged_all _ _ _ _ _ (omega arith) ∙ rw (← c.ends_in_zeros.ensures, c.if-not-ends_in_zeros.false))
