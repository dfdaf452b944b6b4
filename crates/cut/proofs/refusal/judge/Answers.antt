-- `cut::refusal::judge` meets its contract: what is told first, then what is lent.
-- Assumes nothing.
use Rattle.std.proofs.Common.{◌≡◌, sym, ◌∙◌, arith, length, rules}
use Rattle.cut.specs.Cut.{cut_number}
use Rattle.header.specs.FirstOf.{first_right, first_wrong}
use Rattle.header.specs.Terms.{terms_number}
use Rattle.header.specs.TermsLaws.{terms_facts}
use Rattle.lists.specs.Below.{Below}
use Rattle.refusals.specs.Numbers.{code, code_of, code_some}
use Rattle.shares.specs.LentLaws.{lent_bytes}
use Rattle.cut.proofs.refusal.judge.Goals as goal

pub returns-in_err-judge : goal.returns-in_err-judge
unfolding cut_number
returns-in_err-judge c =
    let is : code_of c.from_residual.result ≡ code c.in_err-judge.field-0.0 = search rules in
    is ∙ rw (← c.requires, ← c.in_err-judge.ensures) (sym (first_wrong _ _ (code_some c.in_err-judge.field-0.0)))

pub lent_right-right-requires : goal.lent_right-right-requires
lent_right-right-requires c =
    let facts = terms_facts _ _ _ (sym c.in_ok-judge.ensures) in
    record { order_t = facts.of_told.of_order.t_most; order_n = facts.of_told.of_order.n_most; length = facts.length_most; each = omega arith }

pub returns : goal.returns
unfolding cut_number
returns c =
    let bytes : Below 256 c.args.secret.now = λ i h. omega (arith, c.type_inv.secret i) in
    let right : terms_number c.args.terms.told c.args.terms.stamp (length c.args.secret.now) ≡ 0 = rw c.requires at (sym c.in_ok-judge.ensures) in
    rw (first_right _ _ right, lent_bytes _ _ _ 2048 _ bytes)
    (c.judge_lent.ensures ∙ rw (c.lent_right-right.ensures, c.within.ensures, c.requires))
