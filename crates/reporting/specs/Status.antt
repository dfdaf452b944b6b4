-- How the program ends.
-- Assumes nothing.
use Rattle.std.specs.Prelude.{ℕ, Bool, cond, List, ℤ, pos}
use Rattle.report_text.specs.Report.{ReportOf}

-- the number of the report where it was written, else 100
abbrev pub status_of : Bool → ℕ → ℤ
status_of written number = pos (cond written number 100)

-- how the program may end on an input: with the number of its report, or with 100
pub data Ended (input : List ℕ) : ℤ → Type 0 where
  told : {number : ℕ} {bytes : List ℕ} → ReportOf input number bytes → Ended input (pos number)
  unwritten : Ended input (pos 100)
