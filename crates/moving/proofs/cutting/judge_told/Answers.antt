-- `moving::cutting::judge_told` meets its contract: what is told first, then what is lent.
-- Assumes nothing.
use Rattle.std.proofs.Common.{◌≡◌, sym, ◌∙◌, rules}
use Rattle.header.specs.FirstOf.{first_right, first_wrong}
use Rattle.header.specs.Order.{lawful_keeper}
use Rattle.moving.specs.Cutting.{cut_refusal}
use Rattle.moving.specs.Move.{move_number}
use Rattle.moving.specs.MoveLaws.{move_terms}
use Rattle.refusals.specs.Numbers.{code, code_of, code_some}
use Rattle.moving.proofs.cutting.judge_told.Goals as goal

pub returns-in_err-judge : goal.returns-in_err-judge
unfolding cut_refusal
returns-in_err-judge c =
    let is : code_of c.from_residual.result ≡ code c.in_err-judge.field-0.0 = search rules in
    is ∙ rw (← c.has_keeper.ensures, ← c.in_err-judge.ensures) (sym (first_wrong _ _ (code_some c.in_err-judge.field-0.0)))

pub is_lent-requires : goal.is_lent-requires
is_lent-requires c = (move_terms _ _ (sym c.in_ok-judge.ensures)).0

pub returns : goal.returns
unfolding cut_refusal
returns c =
    let right : move_number c.args.m (lawful_keeper c.args.m.old c.args.keeper) ≡ 0 = rw c.has_keeper.ensures at (sym c.in_ok-judge.ensures) in
    rw (first_right _ _ right) (c.judge_lent.ensures ∙ rw (c.is_lent.ensures, c.within.ensures))
