-- From the report to the status.
-- Assumes nothing.
use Rattle.std.specs.Prelude.{ℕ, ◌≡◌, Bool, true, false, List, ℤ}
use Rattle.report_text.specs.Report.{ReportOf}
use Rattle.reporting.specs.Status.{status_of, Ended, told, unwritten}

-- the program ends on an input as its status says
pub ended : {input bytes : List ℕ} {number : ℕ} {status : ℤ} (written : Bool) → ReportOf input number bytes → status ≡ status_of written number → Ended input status
ended true right e = rw e (told right)
ended false right e = rw e unwritten
