-- `join::refusal::judge_lent` meets its contract: what is told first, then what is lent.
-- Assumes nothing.
use Rattle.std.proofs.Common.{◌≡◌, Err, sym, ◌∙◌, rules}
use Rattle.header.specs.FirstOf.{first_right, first_wrong}
use Rattle.header.specs.TermsLaws.{terms_facts}
use Rattle.refusals.specs.Numbers.{code_some}
use Rattle.join.specs.Join.{join_refusal}
use Rattle.join.proofs.refusal.judge_lent.Goals as goal

pub returns-in_err-judge : goal.returns-in_err-judge
unfolding join_refusal
returns-in_err-judge c =
    let is : c.from_residual.result ≡ Err c.in_err-judge.field-0.0 = search rules in
    rw (is, ← c.in_err-judge.ensures, first_wrong _ _ (code_some c.in_err-judge.field-0.0))

pub lent_right-requires : goal.lent_right-requires
lent_right-requires c = (terms_facts _ _ _ (sym (c.in_ok-judge.ensures))).of_told.of_order.n_most

pub returns-then-lent_right : goal.returns-then-lent_right
unfolding join_refusal
returns-then-lent_right c = rw (first_right _ _ (sym c.in_ok-judge.ensures), sym c.lent_right.ensures ∙ c.if-lent_right.true)

pub returns-else-lent_right : goal.returns-else-lent_right
unfolding join_refusal
returns-else-lent_right c = rw (first_right _ _ (sym c.in_ok-judge.ensures), sym c.lent_right.ensures ∙ c.if-lent_right.false)
