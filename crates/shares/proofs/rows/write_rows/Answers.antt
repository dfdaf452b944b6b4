-- `shares::rows::write_rows` meets its contract: before each turn the rows of the first k keepers stand.
-- Assumes nothing.
use Rattle.std.proofs.Common.{◌+◌, ◌*◌, ◌≤◌, ◌≡◌, refl, ◌∙◌, add-one, arith, length}
use Rattle.shares.specs.Laying.{length_part, laying_none, laying_more, laying_done}
use Rattle.shares.specs.RowLaws.{row_within}
use Rattle.shares.proofs.rows.write_rows.Goals as goal

pub loop-k-init : goal.loop-k-init
loop-k-init c = laying_none _ _ _ _ c.requires.room

pub share_row-requires : goal.share_row-requires
share_row-requires c =
    let l = c.args.l in
    let room : l * c.loop-k.k + l ≤ length c.loop-k.rows = rw c.loop-k.invariant.size (row_within l c.args.n c.loop-k.k (omega arith)) in
    record {
      as_long = rw (length_part (l * c.loop-k.k) l c.loop-k.rows room) c.requires.as_long;
      words = c.requires.words;
      keeper = omega arith;
    }

pub loop-k-preserved : goal.loop-k-preserved
loop-k-preserved c =
    let l = c.args.l in
    let within_rows : l * c.loop-k.k + l ≤ l * c.args.n = row_within l c.args.n c.loop-k.k (omega arith) in
    let row_size = length_part (l * c.loop-k.k) l c.loop-k.rows (omega arith) in
    laying_more _ _ _ c.loop-k.rows c.loop-k.k c.share_row.new.row c.loop-k.invariant within_rows (c.share_row.auto.row ∙ row_size)
    (rw (row_size, add-one) at c.share_row.ensures)

pub returns : goal.returns
returns c =
    let all : c.loop-k.k ≡ c.args.n = omega arith in
    laying_done _ _ _ c.loop-k.rows c.args.n (rw all at c.loop-k.invariant) refl
