-- How a command ends after what is to be written.
-- Assumes nothing.
use Rattle.std.specs.Prelude.{◌≡◌, refl, cond, Result, Ok, Err, is_ok}
use Rattle.saying.specs.Status.{ElseFailed}
use Rattle.saying.specs.declared.status.Status.{Status}
use Rattle.ending.specs.Status.{told}

-- "100 for trouble with files": 0 where it was written, and else 100
pub told_written : (outcome : Result Unit Status) → ElseFailed outcome → told outcome ≡ cond (is_ok outcome) 0 100
told_written (Ok done) written = refl
told_written (Err status) failed = failed
