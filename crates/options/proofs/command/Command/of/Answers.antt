-- `options::command::Command::of` meets its contract: what is found is found in the list of all.
-- Assumes nothing.
use Rattle.std.proofs.Common.{rules, tests}
use Rattle.std.specs.Str.{bytes_eq}
use Rattle.std.proofs.lemmas.Iterator.{YieldsList-from_slice}
use Rattle.std.proofs.lemmas.Iterator.Consumers.{YieldsList-from_copied}
use Rattle.std.proofs.lemmas.Iterator.Search.{find_from_yields_List}
use Rattle.options.specs.Words.{command_word}
use Rattle.options.specs.declared.command.TheConstants.{ALL}
use Rattle.options.proofs.Words.{command_found}
use Rattle.options.proofs.command.Command.of.Goals as goal

pub returns-clause-of : goal.returns-clause-of
returns-clause-of c =
    command_found _ _ (find_from_yields_List (λ command. bytes_eq (command_word command) c.args.word.now) _ _ _ c.find.ensures.ran (YieldsList-from_copied (YieldsList-from_slice ALL cc)) (λ x b q k. search (rules, tests)))
