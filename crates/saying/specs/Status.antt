-- What the system is told of how the program ends.
-- Assumes nothing.
use Rattle.std.specs.Prelude.{ℕ, ◌≡◌, Result, IfErr}
use Rattle.saying.specs.declared.status.Status.{Status}
use Rattle.saying.specs.declared.status.Status.TheVariants.{Answered, Differs, Failed, Misused}

-- "the number that the call gave"; 99 after a comparison; 100 for trouble with files; 101 for a wrong word
abbrev pub code : Status → ℕ
code (Answered number) = number
code Differs = 99
code Failed = 100
code Misused = 101

-- where it did not go well, files are the trouble
abbrev pub ElseFailed : {A : Type 0} → Result A Status → Type 0
ElseFailed outcome = IfErr outcome (λ status. code status ≡ 100)
