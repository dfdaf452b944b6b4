-- `weigh::carry_row` meets its contract: turn by turn the sums' front is the plain sums over the points passed; at the end they are reduced, once.
-- Assumes nothing.
use Rattle.std.proofs.Common.{◌≡◌, refl, ◌∙◌, arith, length, drop, length-append, length-drop, length-take-le, take_at}
use Rattle.lists.specs.Listed.{length-listed}
use Rattle.weigh.specs.CarriedRows.{carriage_rows, row_carried}
use Rattle.weigh.specs.PlainRows.{row_none, row_addition, row_next, row_reduced}
use native.Mathlib.Nat.{add-sub_cancel_left}
use Rattle.weigh.proofs.carry_row.Goals as goal

pub loop-a-init : goal.loop-a-init
loop-a-init c = (refl, row_none (carriage_rows c.requires) c.args.x)

pub add_row-requires : goal.add_row-requires
add_row-requires c =
    let here = c.loop-a in
    rw (add-sub_cancel_left, c.from.ensures, here.invariant.1, c.factor_of.ensures)
    (row_addition (carriage_rows c.requires) c.args.x here.a-index (omega arith))

pub loop-a-preserved : goal.loop-a-preserved
loop-a-preserved c =
    let here = c.loop-a in
    let n = length c.args.row.now in
    let next = row_next (carriage_rows c.requires) c.args.x here.a-index in
    let size : length c.add_row.new.sums ≡ n = c.add_row.auto.sums ∙ length-take-le n here.sums (omega arith) in (
      simp (length-append, length-drop) (omega arith),
      take_at c.add_row.new.sums (drop n here.sums) n size
          ∙ c.add_row.ensures
          ∙ rw (add-sub_cancel_left, c.from.ensures, here.invariant.1, length-listed, c.factor_of.ensures) next,
    )

pub returns : goal.returns
returns c =
    let here = c.loop-a in
    let end : here.a-index ≡ length c.args.points.now = omega arith in
    c.reduce.ensures
    ∙ rw (here.invariant.1, length-listed, end) (row_reduced (carriage_rows c.requires) c.args.x ∙ row_carried c.requires c.args.x)
