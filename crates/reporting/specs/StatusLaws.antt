-- What a status of 0 says: there is a report, and its answer is 0. So 'report && sign' signs on no other.
-- Assumes nothing.
use Rattle.std.specs.Prelude.{ℕ, ◌≡◌, List, ℤ, pos, nat_abs}
use Rattle.std.proofs.Common.{ap, arith}
use Rattle.report_text.specs.Report.{ReportOf}
use Rattle.reporting.specs.Status.{Ended, told, unwritten}

pub zero_answered : {input : List ℕ} {status : ℤ} → Ended input status → status ≡ pos 0 → (bytes : List ℕ) × ReportOf input 0 bytes
zero_answered (told {number} {bytes} right) e = let none : number ≡ 0 = ap nat_abs e in (bytes, rw none at right)
zero_answered unwritten e = absurd (omega (arith, ap nat_abs e))
