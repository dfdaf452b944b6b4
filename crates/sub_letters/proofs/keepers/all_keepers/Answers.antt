-- `sub_letters::keepers::all_keepers` meets its contract: its test of the whole list is the definition's.
-- Assumes nothing.
use Rattle.std.proofs.Common.{◌∙◌, rules, tests}
use Rattle.std.proofs.lemmas.Iterator.{YieldsList-from_slice}
use Rattle.std.proofs.lemmas.Iterator.Search.{all_from_yields_List}
use Rattle.header.specs.Order.{lawful_keeper}
use Rattle.sub_letters.proofs.Tests.{all_lawful}
use Rattle.sub_letters.proofs.keepers.all_keepers.Goals as goal

pub returns : goal.returns
returns c =
    all_from_yields_List (lawful_keeper c.args.o) _ _ _ c.all.ensures.ran (YieldsList-from_slice c.args.keepers.now cc) (λ x b q k. search (rules, tests))
    ∙ all_lawful c.args.o c.args.keepers.now
