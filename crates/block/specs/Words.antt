-- Words as bytes.
-- Assumes nothing.
use Rattle.std.specs.Prelude.{ℕ, ◌+◌, ◌*◌, ◌/◌, ◌%◌, List, [], ◌∷◌, length, get_or}
use Rattle.lists.specs.Listed.{listed}

-- "words of two bytes, high byte first"
unfoldable pub bytes_of : List ℕ → List ℕ
bytes_of [] = []
bytes_of (w ∷ ws) = w / 256 ∷ w % 256 ∷ bytes_of ws

-- the words that bytes are; a last byte without its fellow is no word
unfoldable pub words_of : List ℕ → List ℕ
words_of [] = []
words_of (b ∷ []) = []
words_of (high ∷ low ∷ bs) = (high * 256 + low) ∷ words_of bs

-- a word with its bytes exchanged
abbrev pub exchanged : ℕ → ℕ
exchanged w = w % 256 * 256 + w / 256

-- every word of a row with its bytes exchanged
abbrev pub exchanged_all : List ℕ → List ℕ
exchanged_all ws = listed (λ k. exchanged (get_or ws k 0)) (length ws)
