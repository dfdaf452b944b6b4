-- A draw of 16 bits as a random word, "each of 0..256 equally likely".
-- Assumes nothing.
use Rattle.std.specs.Prelude.{ℕ, ◌+◌, ◌-◌, ◌%◌, ◌<◌, ◌≤◌, ◌≡◌, cond, List, filter_map, ltb, length, get_or, take, Option, Some, None}
use Rattle.lists.specs.Patched.{patched}
use Rattle.block.specs.Words.{words_of}

-- a draw below 65535 gives its remainder modulo 257; 65535 gives nothing, and is drawn again
abbrev pub drawn : ℕ → Option ℕ
drawn draw = cond (ltb draw 65535) (Some (draw % 257)) None

-- the words of those draws that are taken, in order
abbrev pub words_drawn : List ℕ → List ℕ
words_drawn draws = filter_map drawn draws

-- the words that bytes give: two by two, high byte first, the bytes are draws
abbrev pub words_given : List ℕ → List ℕ
words_given bytes = words_drawn (words_of bytes)

-- words laid over the old from a place on, as many as there is room for, and the place after them
pub record Laid (old : List ℕ) (from : ℕ) (given new : List ℕ) (after : ℕ) : Type 0 where
  pub words : new ≡ patched old from (take (length old - from) given)
  pub next : after ≡ from + length (take (length old - from) given)

-- there are so many words so far, each at most 256
pub record Begun (words : List ℕ) (count : ℕ) : Type 0 where
  pub within : count ≤ length words
  pub below : (k : ℕ) → k < count → get_or words k 0 < 257
