-- Texts and numbers as bytes.
-- Assumes nothing.
use Rattle.std.specs.Prelude.{ℕ, zero, suc, ◌+◌, ◌/◌, ◌%◌, cond, List, [], ◌∷◌, ◌++◌, ltb}
use Prim.Native.Char.{code}
use Prim.Native.String.{String, len, char_at}
use Rattle.lists.specs.Listed.{listed}

-- the bytes of a text of plain characters, one for each
unfoldable pub text : String → List ℕ
text s = listed (λ i. code (char_at s i)) (len s)

-- the digits of a number, no more of them than it needs; twenty are enough for any number below 2^64
unfoldable pub digits : ℕ → ℕ → List ℕ
digits zero n = []
digits (suc more) n = cond (ltb n 10) ((48 + n) ∷ []) (digits more (n / 10) ++ ((48 + n % 10) ∷ []))

-- a number as it is printed
abbrev pub decimal : ℕ → List ℕ
decimal n = digits 20 n
