-- `options::option::Opt::of` meets its contract: what is found is found in the list of all.
-- Assumes nothing.
use Rattle.std.proofs.Common.{rules, tests}
use Rattle.std.specs.Str.{bytes_eq}
use Rattle.std.proofs.lemmas.Iterator.{YieldsList-from_slice}
use Rattle.std.proofs.lemmas.Iterator.Consumers.{YieldsList-from_copied}
use Rattle.std.proofs.lemmas.Iterator.Search.{find_from_yields_List}
use Rattle.options.specs.Words.{option_word}
use Rattle.options.specs.declared.option.TheConstants.{ALL}
use Rattle.options.proofs.Words.{option_found}
use Rattle.options.proofs.option.Opt.of.Goals as goal

pub returns-clause-of : goal.returns-clause-of
returns-clause-of c =
    option_found _ _ (find_from_yields_List (λ option. bytes_eq (option_word option) c.args.word.now) _ _ _ c.find.ensures.ran (YieldsList-from_copied (YieldsList-from_slice ALL cc)) (λ x b q k. search (rules, tests)))
