-- The cut's coefficients in columns, one for each power of x, as long as the constants: keepers' values are then taken a whole row at a time.
-- Assumes nothing.
use Rattle.std.specs.Prelude.{ℕ, zero, suc, ◌+◌, ◌*◌, List, length, get_or, drop}
use Rattle.lists.specs.Listed.{listed}
use Rattle.lists.specs.Pieces.{pieces}
use Rattle.algebra.specs.Field.{Ops}
use Rattle.algebra.specs.Poly.{eval}

-- the constants, and behind them word j of each t random words, the coefficients of x^(j + 1)
unfoldable pub column_of : ℕ → List ℕ → List ℕ → ℕ → List ℕ
column_of t constants random zero = constants
column_of t constants random (suc j) = listed (λ i. get_or random (i * t + j) 0) (length constants)

-- the columns, end to end
unfoldable pub columns_of : ℕ → List ℕ → List ℕ → List ℕ
columns_of t constants random = pieces (column_of t constants random) (suc t)

-- the polynomial that stands across columns of l numbers, at number i of each
unfoldable pub across : List ℕ → ℕ → ℕ → ℕ → List ℕ
across columns l t i = listed (λ j. get_or columns (l * j + i) 0) (suc t)

-- the values at x of the polynomials across columns of l numbers, those from power j on
unfoldable pub values_from : Ops → List ℕ → ℕ → ℕ → ℕ → ℕ → List ℕ
values_from O columns l t x j = listed (λ i. eval O (drop j (across columns l t i)) x) l
