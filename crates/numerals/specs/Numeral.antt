-- A word as a number, in decimal.
-- Assumes nothing.
use Rattle.std.specs.Prelude.{ℕ, ◌+◌, ◌*◌, ◌-◌, ◌≡◌, Bool, true, ◌&&◌, cond, List, [], ◌∷◌, leb, length, Option, Some, None}

-- whether a byte is one of 0 .. 9
abbrev pub digit : ℕ → Bool
digit byte = leb 48 byte && leb byte 57

-- whether all bytes of a word are
unfoldable pub all_digits : List ℕ → Bool
all_digits [] = true
all_digits (byte ∷ more) = digit byte && all_digits more

-- the number that they say, behind one that was said before them
unfoldable pub said_after : ℕ → List ℕ → ℕ
said_after before [] = before
said_after before (byte ∷ more) = said_after (before * 10 + (byte - 48)) more

-- the number that a word's digits say
abbrev pub said : List ℕ → ℕ
said word = said_after 0 word

-- "one to ten digits, and what they say is at most 4294967295"
abbrev pub is_number : List ℕ → Bool
is_number word = (leb 1 (length word) && leb (length word) 10) && (all_digits word && leb (said word) 4294967295)

-- a word is read as its number, or as none
pub record NumberRead (word : List ℕ) (r : Option ℕ) : Type 0 where
  pub read : r ≡ cond (is_number word) (Some (said word)) None
