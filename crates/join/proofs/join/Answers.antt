-- `join::join` meets its contract: a refusal, or the join over rows of zeros.
-- Assumes nothing.
use Rattle.std.proofs.Common.{refl, sym}
use Rattle.field.specs.Modulo.{mod257}
use Rattle.join.specs.RefusalLaws.{refused_done}
use Rattle.refusals.specs.Numbers.{code, code_some}
use Rattle.lists.specs.Zeros.{below_zeros}
use Rattle.join.proofs.join.Goals as goal

pub returns-in-Err : goal.returns-in-Err
returns-in-Err c =
    let t = c.args.terms in
    rw c.refused.ensures
    (refused_done t.told t.stamp t.length c.args.tray.now c.args.room.now mod257 (code c.in-Err.refusal) c.in-Err.ensures (code_some c.in-Err.refusal))

pub join_over-requires-clause-not_refused : goal.join_over-requires-clause-not_refused
join_over-requires-clause-not_refused c = sym c.in_default.ensures

pub join_over-requires-clause-rows : goal.join_over-requires-clause-rows
join_over-requires-clause-rows c = record { whole = refl; words = below_zeros 256 15232 }
