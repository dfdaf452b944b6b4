-- The lines of a text, counted from 0.
-- Assumes nothing.
use Rattle.std.specs.Prelude.{ℕ, zero, suc, ◌<◌, ◌≡◌, cond, List, [], ◌∷◌, eqb}

-- the first line, without the byte 10 that ends it; and what stands behind that
unfoldable pub line_of : List ℕ → List ℕ
line_of [] = []
line_of (x ∷ xs) = cond (eqb x 10) [] (x ∷ line_of xs)

unfoldable pub rest_of : List ℕ → List ℕ
rest_of [] = []
rest_of (x ∷ xs) = cond (eqb x 10) xs (rest_of xs)

-- the text from a line on
unfoldable pub rest_at : ℕ → List ℕ → List ℕ
rest_at zero text = text
rest_at (suc n) text = rest_of (rest_at n text)

abbrev pub line_at : ℕ → List ℕ → List ℕ
line_at n text = line_of (rest_at n text)

-- the number of the first line that is this word, or how many entries there are
pub record First (text : List ℕ) (entries : ℕ) (word : List ℕ) (place : ℕ) : Type 0 where
  pub before : (k : ℕ) → k < place → line_at k text ≡ word → ⊥
  pub found : place < entries → line_at place text ≡ word
