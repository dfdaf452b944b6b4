-- What a call of the system may answer.
-- Assumes nothing.
use Rattle.std.specs.Prelude.{ℤ, pos, negsuc, ◌≡◌}

-- 0, or -1
abbrev pub Status : ℤ → Type 0
Status (pos k) = k ≡ 0
Status (negsuc k) = k ≡ 0
