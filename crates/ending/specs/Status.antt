-- How the program ends after a call.
-- Assumes nothing.
use Rattle.std.specs.Prelude.{ℕ, cond, ltb, ℤ, pos, Result, Ok, Err}
use Rattle.saying.specs.Status.{code}
use Rattle.saying.specs.declared.status.Status.{Status}

-- "the number that the call gave, 0 to 99; 100 for trouble with files"
abbrev pub status_of : ℕ → ℤ
status_of number = pos (cond (ltb number 100) number 100)

-- what the system is told: 0 where all went well
abbrev pub told : Result Unit Status → ℕ
told (Ok done) = 0
told (Err status) = code status
