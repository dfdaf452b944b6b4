-- Lists of which one, whichever, is put in the place of another.
-- Assumes nothing.
use Rattle.std.specs.Prelude.{ℕ, cond, eqb}
use mathlib.Core.List.{List}

-- another list in the place of list number j
abbrev pub instead : (ℕ → List ℕ) → ℕ → List ℕ → ℕ → List ℕ
instead lists j list k = cond (eqb k j) list (lists k)
