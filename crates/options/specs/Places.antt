-- How many places of words are left to read.
-- Assumes nothing.
use Rattle.std.specs.Prelude.{ℕ, ◌-◌}
use Rattle.options.specs.declared.places.Places.{Places}

abbrev pub left : Places → ℕ
left p = p.end - p.at
