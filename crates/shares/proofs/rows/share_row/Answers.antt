-- `shares::rows::share_row` meets its contract: before each turn the row holds the values of the powers from j on.
-- Assumes nothing.
use Rattle.std.proofs.Common.{◌+◌, ◌-◌, ◌*◌, ◌≤◌, ◌≡◌, sym, ap, ◌∙◌, arith, length, drop, rules}
use Rattle.field.proofs.Laws.{mod257_field}
use Rattle.field.specs.Modulo.{mod257}
use Rattle.lists.specs.Below.{below_take, below_drop}
use Rattle.shares.specs.Laying.{part_is, length_part}
use Rattle.shares.specs.RowLaws.{part-within, length_values, values_last, values_more, below_values}
use Rattle.shares.proofs.rows.share_row.Goals as goal

pub copy_from_slice-requires : goal.copy_from_slice-requires
copy_from_slice-requires c =
    let l = length c.args.row.now in
    sym (length_part (l * c.args.t) l c.args.columns.now (search rules))

pub loop-j-init : goal.loop-j-init
loop-j-init c =
    let l = length c.args.row.now in
    c.copy_from_slice.ensures.after ∙ part_is (l * c.args.t) l c.args.columns.now
    ∙ values_last mod257 c.args.columns.now l c.args.t c.args.x mod257_field (search rules) c.requires.words

pub step-requires : goal.step-requires
step-requires c =
    let l = length c.args.row.now in
    let at = l * (c.loop-j.j - 1) in
    let room : at + l ≤ length c.args.columns.now = rw c.requires.as_long (part-within l c.args.t (c.loop-j.j - 1) (omega arith)) in
    record {
      as_long = ap length c.loop-j.invariant ∙ length_values mod257 c.args.columns.now l c.args.t c.args.x c.loop-j.j ∙ sym (length_part at l c.args.columns.now room);
      row_words = rw c.loop-j.invariant (below_values mod257 c.args.columns.now l c.args.t c.args.x mod257_field c.loop-j.j);
      column_words = below_take 257 (at + l - at) (drop at c.args.columns.now) (below_drop 257 at c.args.columns.now c.requires.words);
      keeper = c.requires.keeper;
    }

pub loop-j-preserved : goal.loop-j-preserved
loop-j-preserved c =
    let l = length c.args.row.now in
    c.step.ensures
    ∙ values_more mod257 c.args.columns.now l c.args.t c.args.x c.loop-j.j c.loop-j.row _ (omega arith) (omega arith) c.loop-j.invariant (part_is (l * (c.loop-j.j - 1)) l c.args.columns.now)

pub returns : goal.returns
returns c = let done : c.loop-j.j ≡ 0 = omega arith in rw done at c.loop-j.invariant
