-- The values across columns by Horner's rule, a whole row at a time.
-- Assumes nothing.
use Prim.Native.Nat.{ℕ, suc, ◌+◌, ◌-◌, ◌*◌, ◌<◌, ◌≤◌}
use Rattle.std.specs.Prelude.{◌≡◌, List, length, take, drop}
use Rattle.std.proofs.Math.Path.{sym}
use Rattle.std.proofs.Common.{◌∙◌, mul-le-mul_left, arith, length-take, length-drop, drop-cons, get_or-take, get_or-drop}
use Rattle.std.proofs.Math.ListN.{get_or, drop_of_length-le}
use Rattle.lists.specs.Below.{Below}
use Rattle.lists.specs.Listed.{listed, length-listed, get_d_listed, listed_is, listed_same, below_listed}
use Rattle.algebra.specs.Field.{Ops, IsField}
use Rattle.algebra.specs.Poly.{eval, eval_lt, eval_constant}
use Rattle.shares.specs.Columns.{across, values_from}
use Rattle.shares.specs.Horner.{horner_more}

-- column j of columns of l numbers
abbrev pub part_of : List ℕ → ℕ → ℕ → List ℕ
part_of columns l j = take l (drop (l * j) columns)

pub part-within : (l t j : ℕ) → j ≤ t → l * j + l ≤ l * (t + 1)
part-within l t j h = omega (arith, mul-le-mul_left l h)

-- and row k of n lies within all of them
pub row_within : (l n k : ℕ) → k < n → l * k + l ≤ l * n
row_within l n k h = omega (arith, mul-le-mul_left l h)

-- for the bounds of a part
pub ruleset parts_lie = (part-within, row_within)

pub get_d_part : (columns : List ℕ) (l j i : ℕ) → i < l → get_or (part_of columns l j) i 0 ≡ get_or columns (l * j + i) 0
get_d_part columns l j i h = rw (get_or-take l (drop (l * j) columns) i 0 h, get_or-drop)

module _ (O : Ops) (columns : List ℕ) (l t x : ℕ) where
  coefficient-across : (j i : ℕ) → j < suc t → get_or (across columns l t i) j 0 ≡ get_or columns (l * j + i) 0
  unfolding across
  coefficient-across j i h = get_d_listed (λ j. get_or columns (l * j + i) 0) (suc t) j h

  length-across : (i : ℕ) → length (across columns l t i) ≡ suc t
  unfolding across
  length-across i = length-listed (λ j. get_or columns (l * j + i) 0) (suc t)

  pub length_values : (j : ℕ) → length (values_from O columns l t x j) ≡ l
  unfolding values_from
  length_values j = length-listed (λ i. eval O (drop j (across columns l t i)) x) l

  values_step : (j : ℕ) → 0 < j → j ≤ suc t
      → listed (λ i. O.add (get_or (part_of columns l (j - 1)) i 0) (O.mul x (get_or (values_from O columns l t x j) i 0))) l
      ≡ values_from O columns l t x (j - 1)
  unfolding values_from
  values_step j h within =
      listed_same _ _ l
      (λ i hi.
      let p = across columns l t i in
      rw (get_d_part columns l (j - 1) i hi, get_d_listed (λ i. eval O (drop j (across columns l t i)) x) l i hi, ← coefficient-across (j - 1) i (omega arith))
      (sym (horner_more O p x j h (rw length-across within))))

  -- one step down the columns
  pub values_more : (j : ℕ) (row column : List ℕ) → 0 < j → j ≤ suc t → row ≡ values_from O columns l t x j → column ≡ part_of columns l (j - 1)
      → listed (λ i. O.add (get_or column i 0) (O.mul x (get_or row i 0))) (length row) ≡ values_from O columns l t x (j - 1)
  values_more j row column h within e₁ e₂ = rw (e₁, e₂, length_values) (values_step j h within)

  -- the last column is where it begins
  pub values_last : IsField O → length columns ≡ l * suc t → Below O.q columns → part_of columns l t ≡ values_from O columns l t x t
  unfolding values_from
  values_last F size below =
      listed_is _ l (part_of columns l t) (rw (length-take, length-drop) (omega arith))
      (λ i h.
      let p = across columns l t i in
      rw (drop-cons p t 0 (omega (arith, length-across i)), coefficient-across t i (omega arith), drop_of_length-le p {i = suc t} (omega (arith, length-across i)))
      (get_d_part columns l t i h ∙ sym (eval_constant F (get_or columns (l * t + i) 0) x (below (l * t + i) (omega arith)))))

  pub below_values : IsField O → (j : ℕ) → Below O.q (values_from O columns l t x j)
  unfolding values_from
  below_values F j = below_listed O.q _ l (λ i h. eval_lt F (drop j (across columns l t i)) x)
