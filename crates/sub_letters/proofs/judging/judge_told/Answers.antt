-- `sub_letters::judging::judge_told` meets its contract: what is told first, then what is lent.
-- Assumes nothing.
use Rattle.std.proofs.Common.{◌≡◌, sym, ◌∙◌, ◌&&◌, rules}
use Rattle.header.specs.FirstOf.{first_right, first_wrong}
use Rattle.header.specs.Order.{lawful_keeper}
use Rattle.moving.specs.Move.{move_number}
use Rattle.moving.specs.MoveLaws.{move_terms}
use Rattle.refusals.specs.Numbers.{code, code_of, code_some}
use Rattle.sub_letters.specs.Judging.{weigh_refusal}
use Rattle.sub_letters.specs.Keepers.{all_keepers}
use Rattle.sub_letters.proofs.judging.judge_told.Goals as goal

pub returns-in_err-judge : goal.returns-in_err-judge
unfolding weigh_refusal
returns-in_err-judge c =
    let is : code_of c.from_residual.result ≡ code c.in_err-judge.field-0.0 = search rules in
    is ∙ rw (← c.keepers_right.ensures, ← c.in_err-judge.ensures) (sym (first_wrong _ _ (code_some c.in_err-judge.field-0.0)))

pub is_lent-requires : goal.is_lent-requires
is_lent-requires c = (move_terms _ _ (sym c.in_ok-judge.ensures)).0

pub returns-then-is_lent : goal.returns-then-is_lent
unfolding weigh_refusal
returns-then-is_lent c =
    let right : move_number c.args.m (all_keepers c.args.m.old c.args.keepers.now && lawful_keeper c.args.m.told.order c.args.keeper) ≡ 0 =
    rw c.keepers_right.ensures at (sym c.in_ok-judge.ensures) in
    rw (first_right _ _ right, ← c.is_lent.ensures, c.if-is_lent.true)

pub returns-else-is_lent : goal.returns-else-is_lent
unfolding weigh_refusal
returns-else-is_lent c =
    let right : move_number c.args.m (all_keepers c.args.m.old c.args.keepers.now && lawful_keeper c.args.m.told.order c.args.keeper) ≡ 0 =
    rw c.keepers_right.ensures at (sym c.in_ok-judge.ensures) in
    rw (first_right _ _ right, ← c.is_lent.ensures, c.if-is_lent.false)
