-- `shares::columns::lay_out` meets its contract: before each turn the first j + 1 columns stand.
-- Assumes nothing.
use Rattle.std.proofs.Common.{ℕ, ◌+◌, ◌*◌, ◌≤◌, ◌≡◌, refl, sym, ap, ◌∙◌, List, add-one, arith, length, get_or, length-take-le}
use Rattle.lists.specs.Listed.{listed}
use Rattle.shares.specs.Columns.{column_of, columns_of}
use Rattle.shares.specs.Laying.{length_part, laying_first, laying_more, laying_done}
use Rattle.shares.specs.RowLaws.{part-within}
use Rattle.shares.proofs.columns.lay_out.Goals as goal

laid_column : (t j : ℕ) (constants random : List ℕ) (l : ℕ) (piece : List ℕ) → l ≡ length constants → piece ≡ listed (λ i. get_or random (i * t + j) 0) l → piece ≡ column_of t constants random (j + 1)
unfolding column_of
laid_column t j constants random l piece size e = rw (e, size, add-one)

pub slice_bounds-copy_from_slice-end : goal.slice_bounds-copy_from_slice-end
slice_bounds-copy_from_slice-end c = omega arith

pub slice_bounds-copy_from_slice-end-2 : goal.slice_bounds-copy_from_slice-end-2
slice_bounds-copy_from_slice-end-2 c = sym (length-take-le _ _ (omega arith))

pub copy_from_slice-requires : goal.copy_from_slice-requires
copy_from_slice-requires c = length-take-le _ _ (omega arith)

pub loop-j-init : goal.loop-j-init
unfolding column_of
loop-j-init c =
    laying_first _ _ _ c.args.columns.now c.copy_from_slice.new.self (omega arith) c.requires.room
    (ap length c.copy_from_slice.ensures.after) c.copy_from_slice.ensures.after

pub put_coefficients-requires : goal.put_coefficients-requires
put_coefficients-requires c =
    let l = length c.args.constants.now in
    let within : l * (c.loop-j.j + 1) + l ≤ l * (c.args.t + 1) = part-within l c.args.t (c.loop-j.j + 1) (omega arith) in
    record { as_many = rw (length_part (l * (c.loop-j.j + 1)) l c.loop-j.columns (omega arith)) c.requires.words; within = c.loop-j-test.true }

pub loop-j-preserved : goal.loop-j-preserved
loop-j-preserved c =
    let l = length c.args.constants.now in
    let within : l * (c.loop-j.j + 1) + l ≤ l * (c.args.t + 1) = part-within l c.args.t (c.loop-j.j + 1) (omega arith) in
    let part_size = length_part (l * (c.loop-j.j + 1)) l c.loop-j.columns (omega arith) in
    laying_more _ _ _ c.loop-j.columns (c.loop-j.j + 1) c.put_coefficients.new.column c.loop-j.invariant within (c.put_coefficients.auto.column ∙ part_size)
    (laid_column c.args.t c.loop-j.j c.args.constants.now c.args.random.now _ _ part_size c.put_coefficients.ensures)

pub returns : goal.returns
unfolding columns_of
returns c =
    let all : c.loop-j.j ≡ c.args.t = omega arith in
    laying_done _ _ _ c.loop-j.columns (c.args.t + 1) (rw all at c.loop-j.invariant) refl ∙ rw add-one
