-- `reporting::report_run` meets its contract: where it takes words it ends as on an input of which nothing is reported.
-- Assumes nothing.
use Rattle.std.proofs.Common.{[]}
use Rattle.reporting.specs.Status.{unwritten}
use Rattle.reporting.proofs.report_run.Goals as goal

pub returns-then-word_count-gt1 : goal.returns-then-word_count-gt1
returns-then-word_count-gt1 c = ([], rw c.refuse_words.ensures unwritten)
