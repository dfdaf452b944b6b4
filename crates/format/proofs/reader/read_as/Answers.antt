-- `format::reader::read_as` meets its contract: block 0 is judged by what it says itself, and the others by what block 0 says.
-- Assumes nothing.
use Rattle.std.proofs.Common.{◌≡◌, Result, Ok, Err, IsErr, IsErrAnd, refl, sym, ◌∙◌, arith, eq-eqb, ne_eqb}
use Rattle.format.proofs.Judging.{good_block, bad_block}
use Rattle.format.specs.LetterBlockLaws.{block_read}
use Rattle.format.specs.declared.reader.Fault.{Fault}
use Rattle.format.specs.Reading.{Bad, reading_of, block_words, read_as}
use Rattle.format.specs.SlotWords.{length-block_words}
use Rattle.header.specs.declared.head.Head.{Head}
use Rattle.header.specs.Head.{head_of}
use Rattle.refusals.specs.declared.Refusal.{Refusal}
use Rattle.refusals.specs.Numbers.{code, code_some}
use Rattle.format.proofs.reader.read_as.Goals as goal

pub returns-then-slot-ne2048 : goal.returns-then-slot-ne2048
unfolding read_as
returns-then-slot-ne2048 c = rw (ne_eqb _ 2048 c.if-slot-ne2048.true, c.from.ensures)

-- what `?` makes of a refusal
refused : (refusal : Refusal) (answer : Result Head Fault) → IsErr answer × IsErrAnd answer (λ fault. fault ≡ record { refusal = refusal; place = 0 })
    → reading_of answer ≡ Bad (code refusal) 0
refused refusal (Ok h) e = let none = e.0 in cc
refused refusal (Err fault) e = rw e.1

pub returns-in_err-judge_block : goal.returns-in_err-judge_block
unfolding read_as
returns-in_err-judge_block c =
    let said : c.head_of-first.result ≡ head_of (block_words c.args.slot.now 0) = rw c.block_at-block.ensures.0 at c.head_of-first.ensures in
    let bad = rw c.block_at-block.ensures.0 at c.in_err-judge_block.ensures in
    refused _ _ c.from_residual.ensures
    ∙ rw (eq-eqb _ 2048 c.if-slot-ne2048.false, ← said)
    (sym (bad_block _ _ _ _ 0 _ bad (omega arith) (code_some _)))

pub read_on-requires : goal.read_on-requires
read_on-requires c =
    let size = c.if-slot-ne2048.false in
    let good = rw c.block_at-block.ensures.0 at c.in_ok-judge_block.ensures in
    (size, (block_read _ c.head_of-first.result 0 _ (block_words c.args.slot.now 0) (length-block_words c.args.slot.now size 0 (omega arith)) (sym good)).lawful)

pub returns : goal.returns
unfolding read_as
returns c =
    let said : c.head_of-first.result ≡ head_of (block_words c.args.slot.now 0) = rw c.block_at-block.ensures.0 at c.head_of-first.ensures in
    let good = rw c.block_at-block.ensures.0 at c.in_ok-judge_block.ensures in
    rw (eq-eqb _ 2048 c.if-slot-ne2048.false, ← said)
    (c.read_on.ensures ∙ sym (good_block _ _ _ _ 0 0 good (omega arith) refl))
