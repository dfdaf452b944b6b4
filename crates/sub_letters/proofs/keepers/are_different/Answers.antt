-- `sub_letters::keepers::are_different` meets its contract: it stops at the first that is one of those before it.
-- Assumes nothing.
use Rattle.std.proofs.Common.{sym, ap, ◌∙◌, not, arith}
use Rattle.lists.specs.AllToLaws.{all_to_stops, passed_none, passed_next, passed_all}
use Rattle.sub_letters.specs.Keepers.{differ}
use Rattle.sub_letters.proofs.Tests.{none_before}
use Rattle.sub_letters.proofs.keepers.are_different.Goals as goal

pub loop-i-init : goal.loop-i-init
loop-i-init c = passed_none _

pub returns-then-contains : goal.returns-then-contains
unfolding differ
returns-then-contains c =
    let none = sym (none_before _ c.args.xs.now c.loop-i.i (omega arith)) ∙ ap not (sym c.contains.ensures.value ∙ c.if-contains.true) in
    sym (all_to_stops _ _ _ c.loop-i-test.true none)

pub loop-i-preserved : goal.loop-i-preserved
loop-i-preserved c =
    let none = sym (none_before _ c.args.xs.now c.loop-i.i (omega arith)) ∙ ap not (sym c.contains.ensures.value ∙ c.if-contains.false) in
    passed_next _ c.loop-i.invariant c.loop-i-test.true none

pub returns : goal.returns
unfolding differ
returns c = sym (passed_all _ c.loop-i.invariant c.loop-i-test.false)
