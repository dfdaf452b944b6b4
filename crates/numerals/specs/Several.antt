-- Several numbers as one word, with commas between them, as 1,3,4.
-- Assumes nothing.
use Rattle.std.specs.Prelude.{ℕ, ◌≤◌, ◌≡◌, Bool, true, ◌&&◌, cond, List, [], ◌∷◌, map, eqb, leb, length, take, Option, Some, None, unwrap_or}
use Rattle.numerals.specs.Numeral.{said, is_number}

-- a byte put before the first of some parts
unfoldable pub onto : ℕ → List (List ℕ) → List (List ℕ)
onto byte [] = (byte ∷ []) ∷ []
onto byte (part ∷ more) = (byte ∷ part) ∷ more

-- the parts of a word between its commas, of which there is always one: 44 is the comma
unfoldable pub parts : List ℕ → List (List ℕ)
parts [] = [] ∷ []
parts (byte ∷ more) = cond (eqb byte 44) ([] ∷ parts more) (onto byte (parts more))

-- whether all of some words are numbers
unfoldable pub all_numbers : List (List ℕ) → Bool
all_numbers [] = true
all_numbers (word ∷ more) = is_number word && all_numbers more

-- "one or more numbers, at most so many, with commas between"
abbrev pub is_list : ℕ → List ℕ → Bool
is_list most word = leb (length (parts word)) most && all_numbers (parts word)

-- the numbers that such a word says
abbrev pub listed : List ℕ → List ℕ
listed word = map said (parts word)

-- A word is read as its numbers, which stand at the room's start, or as none. The last two parts say that the room has them: for whoever lends that start
-- alone.
pub record ListRead (word : List ℕ) (most : ℕ) (room : List ℕ) (r : Option ℕ) : Type 0 where
  pub many : r ≡ cond (is_list most word) (Some (length (parts word))) None
  pub values : take (unwrap_or r 0) room ≡ cond (is_list most word) (listed word) []
  pub within : unwrap_or r 0 ≤ length room
  pub front : unwrap_or r 0 ≡ length (take (unwrap_or r 0) room)
