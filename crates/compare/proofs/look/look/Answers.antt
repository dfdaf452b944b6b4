-- `compare::look::look` meets its contract, part by part.
-- Assumes nothing.
use Rattle.std.proofs.Common.{◌+◌, ◌≡◌, arith, set}
use Rattle.compare.proofs.Looking.{looked_none, looked_parts, looked_next}
use Rattle.compare.specs.Parts.{Looked}
use Rattle.compare.proofs.look.look.Goals as goal

pub loop-p-init : goal.loop-p-init
loop-p-init c = looked_none

pub offset_bounds-parts-found : goal.offset_bounds-parts-found
offset_bounds-parts-found c = omega (arith, looked_parts c.loop-p.invariant)

pub bounds-parts-found : goal.bounds-parts-found
bounds-parts-found c = omega (arith, looked_parts c.loop-p.invariant, c.loop-p.invariant.size)

pub overflow_add-found : goal.overflow_add-found
overflow_add-found c =
    let next : let here = c.loop-p in
    let args = c.args in
    Looked args.first.now args.second.now (here.p + 1) args.parts.now (set here.parts here.found here.p) (here.found + c.part_differs-found.result) =
    let before = c.loop-p.invariant in
    looked_next before (omega (arith, looked_parts before, before.size)) c.part_differs-found.ensures in
    omega (arith, looked_parts next)

pub loop-p-preserved : goal.loop-p-preserved
loop-p-preserved c =
    let next : let here = c.loop-p in
    let args = c.args in
    Looked args.first.now args.second.now (here.p + 1) args.parts.now (set here.parts here.found here.p) (here.found + c.part_differs-found.result) =
    let before = c.loop-p.invariant in
    looked_next before (omega (arith, looked_parts before, before.size)) c.part_differs-found.ensures in
    next

pub shape_of-parts : goal.shape_of-parts
shape_of-parts c = c.loop-p.invariant.size

pub returns : goal.returns
returns c =
    let all : c.loop-p.p ≡ c.args.m = omega arith in
    rw all at c.loop-p.invariant
