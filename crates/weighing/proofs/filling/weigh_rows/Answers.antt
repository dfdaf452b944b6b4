-- `weighing::filling::weigh_rows` meets its contract: turn by turn the sums' front is the plain sums over the sub-letters passed; at the end they are
-- reduced, once.
-- Assumes nothing.
use Rattle.std.proofs.Common.{◌≡◌, refl, sym, ◌∙◌, arith, length, drop, length-append, length-drop, length-take-le, take_at}
use Rattle.lists.specs.Listed.{length-listed}
use Rattle.tray.specs.SlotLaws.{length-slot}
use Rattle.weigh.specs.PlainRows.{row_none, row_addition, row_next, row_reduced}
use Rattle.weighing.specs.WeighedRows.{sub_row, sub_taken, sub_rows, rows_weighed}
use Rattle.weighing.proofs.filling.weigh_rows.Goals as goal

pub loop-k-init : goal.loop-k-init
loop-k-init c = (refl, refl, row_none (sub_rows c.requires) 0)

pub take_shares-requires : goal.take_shares-requires
take_shares-requires c = (rw c.slot_of.ensures (length-slot _ _ (omega arith) (omega arith)), omega arith)

pub slice_bounds-add_row-end : goal.slice_bounds-add_row-end
slice_bounds-add_row-end c = sym (length-take-le _ _ (omega arith))

pub add_row-requires : goal.add_row-requires
add_row-requires c =
    let taken : c.take_shares.new.row ≡ sub_row c.args.letters.now (length c.args.row.now) c.loop-k.k =
    sub_taken c.requires c.loop-k.k c.slot_of.ensures c.loop-k.invariant.0 c.take_shares.ensures in
    rw (c.loop-k.invariant.2, taken, c.factor_of.ensures) (row_addition (sub_rows c.requires) 0 c.loop-k.k (omega arith))

pub loop-k-preserved : goal.loop-k-preserved
loop-k-preserved c =
    let taken : c.take_shares.new.row ≡ sub_row c.args.letters.now (length c.args.row.now) c.loop-k.k =
    sub_taken c.requires c.loop-k.k c.slot_of.ensures c.loop-k.invariant.0 c.take_shares.ensures in
    let n = length c.args.row.now in
    let size : length c.add_row.new.sums ≡ n = c.add_row.auto.sums ∙ length-take-le n c.loop-k.sums (omega arith) in (
      c.take_shares.auto.row ∙ c.loop-k.invariant.0,
      simp (length-append, length-drop) (omega arith),
      take_at c.add_row.new.sums (drop n c.loop-k.sums) n size
          ∙ c.add_row.ensures
          ∙ rw (c.loop-k.invariant.2, length-listed, taken, c.factor_of.ensures) (row_next (sub_rows c.requires) 0 c.loop-k.k),
    )

pub slice_bounds-reduce-end : goal.slice_bounds-reduce-end
slice_bounds-reduce-end c = sym (length-take-le _ _ (omega arith))

pub reduce-requires : goal.reduce-requires
reduce-requires c = length-take-le _ _ (omega arith) ∙ sym c.loop-k.invariant.0

pub shape_of-row : goal.shape_of-row
shape_of-row c = c.reduce.auto.row ∙ c.loop-k.invariant.0

pub returns : goal.returns
returns c =
    let end : c.loop-k.k ≡ length c.args.froms.now = omega arith in
    c.reduce.ensures ∙ rw (c.loop-k.invariant.2, length-listed, end) (row_reduced (sub_rows c.requires) 0 ∙ rows_weighed c.requires)
