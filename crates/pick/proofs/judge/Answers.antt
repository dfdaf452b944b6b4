-- `pick::judge` meets its contract, test by test.
-- Assumes nothing.
use Rattle.std.proofs.Common.{sym, ◌∙◌, arith, eq-eqb, ne_eqb}
use Rattle.header.specs.ToldLaws.{lawful_told_facts}
use Rattle.pick.specs.Pick.{pick_refusal}
use Rattle.pick.proofs.judge.Goals as goal

pub overflow_mul-told : goal.overflow_mul-told
overflow_mul-told c = omega (arith, lawful_told_facts _ (sym c.is_lawful.ensures ∙ c.if-not-is_lawful.false))

pub returns-then-tray-told : goal.returns-then-tray-told
unfolding pick_refusal
returns-then-tray-told c = rw (sym c.is_lawful.ensures ∙ c.if-not-is_lawful.false, eq-eqb _ _ c.if-tray-told.true)

pub returns-else-tray-told : goal.returns-else-tray-told
unfolding pick_refusal
returns-else-tray-told c = rw (sym c.is_lawful.ensures ∙ c.if-not-is_lawful.false, ne_eqb _ _ c.if-tray-told.false)

pub returns-then-not-is_lawful : goal.returns-then-not-is_lawful
unfolding pick_refusal
returns-then-not-is_lawful c = rw (sym c.is_lawful.ensures ∙ c.if-not-is_lawful.true)
