-- `numerals::list::end_of` meets its contract: the part goes on to the first comma behind the place, or to the word's end.
-- Assumes nothing.
use Rattle.std.proofs.Common.{sym, ◌∙◌}
use Rattle.numerals.specs.SeveralLaws.{part_to_comma, part_to_end}
use Rattle.numerals.proofs.list.end_of.Goals as goal

pub returns-in-Some : goal.returns-in-Some
returns-in-Some c = part_to_comma c.args.word.now c.args.from c.in-Some.at c.requires (sym c.comma.ensures ∙ c.in-Some.is)

pub returns-in-None : goal.returns-in-None
returns-in-None c = part_to_end c.args.word.now c.args.from c.requires (sym c.comma.ensures ∙ c.in-None.is)
