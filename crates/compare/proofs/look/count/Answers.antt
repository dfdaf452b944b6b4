-- `compare::look::count` meets its contract, part by part.
-- Assumes nothing.
use Rattle.std.proofs.Common.{◌≤◌, refl, ap, ◌∙◌, arith, length, get_or, take_all}
use Rattle.compare.proofs.PartLaws.{have_fewer, in_part_most, length_more}
use Rattle.compare.specs.Parts.{in_parts}
use Rattle.compare.proofs.look.count.Goals as goal

pub loop-part-init : goal.loop-part-init
unfolding in_parts
loop-part-init c = (omega arith, refl)

pub words_in-words-requires : goal.words_in-words-requires
words_in-words-requires c = rw c.from.ensures (have_fewer c.requires.have_parts (c.requires.parts_below c.loop-part.part-index (omega arith)))

pub overflow_add-words : goal.overflow_add-words
overflow_add-words c =
    let most : c.words_in-words.result ≤ 8 =
    omega (arith, rw c.from.ensures at c.words_in-words.ensures, in_part_most c.args.first.now c.args.second.now (get_or c.args.parts.now c.loop-part.part-index 0)) in
    omega (arith, c.loop-part.invariant, c.requires.few, most)

pub loop-part-preserved : goal.loop-part-preserved
loop-part-preserved c =
    let most : c.words_in-words.result ≤ 8 =
    omega (arith, rw c.from.ensures at c.words_in-words.ensures, in_part_most c.args.first.now c.args.second.now (get_or c.args.parts.now c.loop-part.part-index 0)) in
    let here = c.loop-part in
    let args = c.args in
    let more = length_more args.first.now args.second.now args.parts.now here.part-index (omega arith) in
    (omega (arith, here.invariant.0, most), omega (arith, here.invariant.1, rw c.from.ensures at c.words_in-words.ensures))

pub returns : goal.returns
returns c =
    let here = c.loop-part in
    let args = c.args in
    here.invariant.1 ∙ ap (λ parts. length (in_parts args.first.now args.second.now parts)) (take_all here.part-index args.parts.now (omega arith))
