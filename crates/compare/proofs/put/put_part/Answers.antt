-- `compare::put::put_part` meets its contract, word by word.
-- Assumes nothing.
use Rattle.std.proofs.Common.{sym, ◌∙◌, arith}
use Rattle.compare.proofs.Putting.{laid_size, to_none, to_all, to_skipped, part_room, part_joined}
use Rattle.compare.proofs.CompareLaws.{differs-told}
use Rattle.compare.specs.Parts.{in_part}
use Rattle.compare.proofs.put.put_part.Goals as goal

pub loop-j-init : goal.loop-j-init
loop-j-init c = to_none (omega (arith, c.requires.room))

pub loop-j-preserved-then-same_word : goal.loop-j-preserved-then-same_word
loop-j-preserved-then-same_word c =
    let here = c.loop-j in
    to_skipped here.invariant (omega arith) (differs-told _ _ _ (sym c.same_word.ensures ∙ c.if-same_word.true))

pub offset_bounds-list-next : goal.offset_bounds-list-next
offset_bounds-list-next c =
    let a = c.args in
    let other = differs-told _ _ _ (sym c.same_word.ensures ∙ c.if-same_word.false) in
    omega (arith, part_room a.first.now a.second.now a.p c.loop-j.invariant (omega arith) c.requires.room other)

pub bounds-list-next : goal.bounds-list-next
bounds-list-next c =
    let a = c.args in
    let other = differs-told _ _ _ (sym c.same_word.ensures ∙ c.if-same_word.false) in
    part_room a.first.now a.second.now a.p c.loop-j.invariant (omega arith) c.requires.room other

pub overflow_add-next : goal.overflow_add-next
overflow_add-next c =
    let a = c.args in
    let other = differs-told _ _ _ (sym c.same_word.ensures ∙ c.if-same_word.false) in
    omega (arith, part_room a.first.now a.second.now a.p c.loop-j.invariant (omega arith) c.requires.room other)

pub loop-j-preserved : goal.loop-j-preserved
loop-j-preserved c =
    let a = c.args in
    let other = differs-told _ _ _ (sym c.same_word.ensures ∙ c.if-same_word.false) in
    part_joined a.first.now a.second.now a.p c.loop-j.invariant (omega arith) c.requires.room other c.place.ensures

pub shape_of-list : goal.shape_of-list
shape_of-list c = laid_size c.loop-j.invariant.laid_to

pub returns : goal.returns
unfolding in_part
returns c = to_all c.loop-j.invariant (omega arith)
