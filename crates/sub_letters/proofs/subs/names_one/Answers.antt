-- `sub_letters::subs::names_one` meets its contract: every block names what block 0 names.
-- Assumes nothing.
use Rattle.std.proofs.Common.{◌≡◌, ℕ, ◌∙◌, refl, eqb, rules, tests, arith}
use Rattle.std.proofs.iter.Yields.{nat_range_steps}
use Rattle.std.proofs.lemmas.Iterator.{YieldsList-from_range}
use Rattle.std.proofs.lemmas.Iterator.Search.{all_from_yields_List}
use Rattle.lists.specs.AllTo.{all_to}
use Rattle.sub_letters.specs.Subs.{from_at}
use Rattle.sub_letters.proofs.Tests.{every_number}
use Rattle.sub_letters.proofs.subs.names_one.Goals as goal

pub returns : goal.returns
returns c =
    let a = c.args in
    let first = c.from_at-first.result in
    let whole : c.all.result ≡ all_to (λ p. eqb (from_at a.letters.now a.k p) first) a.count =
    all_from_yields_List {steps = nat_range_steps} {v = λ (x : ℕ). x} (λ p. eqb (from_at a.letters.now a.k p) first) _ _ _ c.all.ensures.ran
    (YieldsList-from_range 0 a.count a.count refl (omega arith)) (λ x b q k. search (rules, tests))
    ∙ every_number _ a.count in
    rw (← c.from_at-first.ensures) whole
