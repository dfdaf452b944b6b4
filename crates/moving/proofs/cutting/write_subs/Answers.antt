-- `moving::cutting::write_subs` meets its contract: before each turn the sub-letters of the first k new keepers stand.
-- Assumes nothing.
use Rattle.std.proofs.Common.{◌+◌, ◌*◌, ◌≤◌, ◌≡◌, refl, ◌∙◌, add-one, arith, length, rules}
use Rattle.moving.specs.CuttingLaws.{row_within, part_row, new_lawful}
use Rattle.shares.specs.Laying.{length_part, laying_none, laying_more, laying_done}
use Rattle.moving.proofs.cutting.write_subs.Goals as goal

pub loop-k-init : goal.loop-k-init
loop-k-init c = laying_none _ _ _ _ c.requires.tray_length

pub write_as-requires : goal.write_as-requires
write_as-requires c =
    let within : c.args.m.length * c.loop-k.k + c.args.m.length ≤ length c.args.rows.now =
    rw c.requires.rows_length (row_within c.args.m.length c.args.m.told.order.n c.loop-k.k c.loop-k-test.true) in
    rw (c.head_for.ensures, c.terms.ensures) (
      new_lawful c.requires.terms c.loop-k.k c.loop-k-test.true,
      length_part (c.args.m.length * c.loop-k.k) c.args.m.length _ within,
      length_part (2048 * c.loop-k.k) 2048 c.loop-k.tray (omega arith),
    )

pub loop-k-preserved : goal.loop-k-preserved
loop-k-preserved c =
    let slot_size = length_part (2048 * c.loop-k.k) 2048 c.loop-k.tray (omega arith) in
    laying_more _ _ _ c.loop-k.tray c.loop-k.k _ c.loop-k.invariant (search rules) (c.write_as.auto.slot ∙ slot_size)
    (rw (c.head_for.ensures, c.terms.ensures, add-one, part_row) at c.write_as.ensures)

pub returns : goal.returns
returns c =
    let all : c.loop-k.k ≡ c.args.m.told.order.n = omega arith in
    laying_done _ _ _ c.loop-k.tray c.args.m.told.order.n (rw all at c.loop-k.invariant) refl
