-- From words at some points to the word at a place, on the one polynomial through them.
-- Assumes nothing.
use Rattle.std.specs.Prelude.{ℕ, ◌+◌, ◌-◌, ◌*◌, ◌≤◌, ◌<◌, ◌≡◌, List, map, length, get_or}
use Rattle.lists.specs.Below.{Below}
use Rattle.algebra.specs.Field.{Ops}
use Rattle.algebra.specs.Combine.{combine, factors}

-- the value at x of the polynomial that has the values y at the points xs: each value times its point's factor, summed
abbrev pub carried : Ops → List ℕ → (ℕ → ℕ) → ℕ → ℕ
carried O xs y x = combine O (map y xs) (factors O xs x) (length xs)

-- rows of 952 words, a row for each of the keepers 1..16: word i of keeper x
abbrev pub row_word : List ℕ → ℕ → ℕ → ℕ
row_word rows x i = get_or rows (952 * (x - 1) + i) 0

-- each of them is the number of a keeper
abbrev pub Keepers : List ℕ → Type 0
Keepers xs = (i : ℕ) → i < length xs → (1 ≤ get_or xs i 0) × (get_or xs i 0 ≤ 16)

-- what a row of words is carried from, and the room for it
pub record Carriage (points rows row : List ℕ) : Type 0 where
  pub keepers : Keepers points
  pub few : length points ≤ 8
  pub whole : length rows ≡ 15232
  pub words : Below 257 rows
  pub room : length row ≤ 952

-- sums of at most eight products of two words, a row to add to them, and the word that it is taken times
pub record Addition (sums row : List ℕ) (times : ℕ) : Type 0 where
  pub size : length row ≡ length sums
  pub words : Below 257 row
  pub word : times ≤ 256
  pub room : Below 524289 sums
