-- An order as one word: three numbers with commas between them, as 2,1,8.
-- Assumes nothing.
use Rattle.std.specs.Prelude.{ℕ, ◌≡◌, true, List, ◌∷◌, ◌++◌, Option, Some, None}
use Rattle.numerals.specs.Numeral.{said, is_number}
use Rattle.numerals.specs.declared.order.OrderWord.{OrderWord}

-- a word that is a number says it
abbrev pub Says : List ℕ → ℕ → Type 0
Says word value = (is_number word ≡ true) × (value ≡ said word)

-- t, f and n with commas between: a, b and c are the three words, and 44 is the comma
pub record OrderSaid (word : List ℕ) (t f n : ℕ) : Type 0 where
  pub a : List ℕ
  pub b : List ℕ
  pub c : List ℕ
  pub joined : word ≡ a ++ (44 ∷ (b ++ (44 ∷ c)))
  pub first : Says a t
  pub second : Says b f
  pub third : Says c n

-- where a word is read as three numbers it is an order, of these; where it is read as none, it is none
pub record OrderRead (word : List ℕ) (r : Option OrderWord) : Type 0 where
  pub some : (o : OrderWord) → r ≡ Some o → OrderSaid word o.t o.f o.n
  pub none : r ≡ None → (t f n : ℕ) → OrderSaid word t f n → ⊥
