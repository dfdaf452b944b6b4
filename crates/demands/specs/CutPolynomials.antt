-- The cut's own polynomials: one for each constant.
-- Assumes nothing.
use Prim.Native.Nat.{ℕ}
use Rattle.std.specs.Prelude.{take, drop}
use mathlib.Core.List.{List, [], ◌∷◌}

-- "For byte i the coefficients of x, x^2, .. x^t are words i*t .. i*t+t-1, and the constant is the byte."
unfoldable pub cut_polynomials : ℕ → List ℕ → List ℕ → List (List ℕ)
cut_polynomials t [] random = []
cut_polynomials t (c ∷ cs) random = (c ∷ take t random) ∷ cut_polynomials t cs (drop t random)
