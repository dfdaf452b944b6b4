-- `sub_letters::keepers::are_among` meets its contract: its test of the whole list is the definition's.
-- Assumes nothing.
use Rattle.std.proofs.Common.{◌∙◌, eqb, rules, tests}
use Rattle.std.proofs.lemmas.Iterator.{YieldsList-from_slice}
use Rattle.std.proofs.lemmas.Iterator.Search.{all_from_yields_List}
use Rattle.std.specs.List.{list_any}
use Rattle.sub_letters.proofs.Tests.{each_among}
use Rattle.sub_letters.proofs.keepers.are_among.Goals as goal

pub returns : goal.returns
returns c =
    let ys = c.args.ys.now in
    all_from_yields_List (λ x. list_any (λ y. eqb y x) ys) _ _ _ c.all.ensures.ran (YieldsList-from_slice c.args.xs.now cc) (λ x b q k. search (rules, tests))
    ∙ each_among c.args.xs.now ys
