-- `sub_letters::subs::are_steady` meets its contract: every sub-letter names one old keeper.
-- Assumes nothing.
use Rattle.std.proofs.Common.{◌≡◌, ℕ, suc, ◌∙◌, ◌≤◌, refl, eqb, rules, tests, arith}
use Rattle.std.proofs.iter.Yields.{nat_range_steps}
use Rattle.std.proofs.lemmas.Iterator.{YieldsList-from_range, serves_from_Range}
use Rattle.std.proofs.lemmas.Iterator.Search.{all_from_yields_List}
use Rattle.format.specs.Letter.{blocks_for}
use Rattle.lists.specs.AllTo.{all_to}
use Rattle.sub_letters.specs.Lent.{SubsLent}
use Rattle.sub_letters.specs.SubLaws.{subs_before}
use Rattle.sub_letters.specs.Subs.{from_at, steady}
use Rattle.sub_letters.proofs.Tests.{every_number}
use Rattle.sub_letters.proofs.subs.are_steady.Goals as goal

few_blocks : (l many : ℕ) → l ≤ 952 → many ≡ blocks_for l → many ≤ 4
unfolding blocks_for
few_blocks l many most e = omega arith

pub all-requires-clause-callable : goal.all-requires-clause-callable
all-requires-clause-callable c =
    let few = few_blocks _ _ c.requires.1 c.blocks-many.ensures in
    serves_from_Range (λ x q k. search (rules, tests))
    (λ x low high. let lent : SubsLent c.args.letters.now (suc x) = subs_before c.requires.0 high in search rules)

pub returns : goal.returns
unfolding steady
returns c =
    let a = c.args in
    let many = c.blocks-many.result in
    let whole : c.all.result ≡ all_to (λ k. all_to (λ p. eqb (from_at a.letters.now k p) (from_at a.letters.now k 0)) many) a.count =
    all_from_yields_List {steps = nat_range_steps} {v = λ (x : ℕ). x} (λ k. all_to (λ p. eqb (from_at a.letters.now k p) (from_at a.letters.now k 0)) many) _ _ _ c.all.ensures.ran
    (YieldsList-from_range 0 a.count a.count refl (omega arith)) (λ x b q k. search (rules, tests))
    ∙ every_number _ a.count in
    rw (← c.blocks-many.ensures) whole
