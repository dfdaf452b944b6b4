-- `reporting::write_report` meets its contract: the status is the number of the report where that was written.
-- Assumes nothing.
use Rattle.reporting.proofs.Ending.{ended}
use Rattle.reporting.proofs.write_report.Goals as goal

pub returns : goal.returns
returns c = ended c.is_ok-written.result c.report-answered.ensures.right c.status_of.ensures
