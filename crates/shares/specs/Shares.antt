-- The share words that a keeper gets.
-- Assumes nothing.
use Rattle.std.specs.Prelude.{ℕ, List, [], ◌∷◌, take, drop}
use Rattle.algebra.specs.Field.{Ops}
use Rattle.algebra.specs.Poly.{eval}

-- "For byte i the coefficients of x, x^2, .. x^t are words i*t .. i*t+t-1, and the constant is the byte. Keeper x's share word i is the
-- polynomial's value at x." The constants may be any field words.
unfoldable pub share_words : Ops → ℕ → ℕ → List ℕ → List ℕ → List ℕ
share_words O t x [] random = []
share_words O t x (constant ∷ constants) random = eval O (constant ∷ take t random) x ∷ share_words O t x constants (drop t random)
