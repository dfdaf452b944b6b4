-- `report_text::joined::report_joined` meets its contract: the join is done in a room of zeros, and its lines are written by the set of the usable keepers.
-- Assumes nothing.
use Rattle.std.proofs.Common.{refl, ◌∙◌}
use Rattle.join.specs.Join.{joined_of}
use Rattle.join.specs.Room.{take_zeros}
use Rattle.report_text.specs.Sets.{lines_of-set}
use Rattle.report_text.proofs.joined.report_joined.Goals as goal

pub returns : goal.returns
returns c = record {
  result = joined_of c.join-joined.result;
  left = c.join-joined.new.room;
  done = rw (take_zeros c.args.terms.length 952 c.requires.short) at c.join-joined.ensures;
  written = c.put_lines.ensures ∙ rw (c.usable_in.ensures, lines_of-set);
  numbered = refl;
}
