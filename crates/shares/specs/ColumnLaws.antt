-- The columns of a cut: how long they are, how large their words, and what stands across them.
-- Assumes nothing.
use Prim.Native.Nat.{ℕ, zero, suc, ◌+◌, ◌*◌, ◌<◌, ◌≤◌}
use Rattle.std.specs.Prelude.{◌≡◌, drop}
use Rattle.std.proofs.Math.Path.{refl, sym, ap}
use Rattle.std.proofs.Common.{◌∙◌, mul-le-mul, mul-le-mul_right, le_of_suc-le-suc, arith, length-take, length-drop, get_or-drop}
use mathlib.Core.List.{List}
use Rattle.std.proofs.Math.Nat.{mul_comm}
use Rattle.std.proofs.Math.ListN.{length, get_or}
use Rattle.std.proofs.Math.Seq.{get_or-take}
use Rattle.lists.specs.Below.{Below}
use Rattle.lists.specs.Listed.{length-listed, get_d_listed, listed_is, listed_same, below_listed}
use Rattle.lists.specs.Pieces.{pieces, length-pieces, part-pieces, below_pieces}
use Rattle.algebra.specs.Field.{Ops}
use Rattle.algebra.specs.Poly.{eval}
use Rattle.shares.specs.Shares.{share_words}
use Rattle.shares.specs.Columns.{column_of, columns_of, across, values_from}
use Rattle.shares.specs.RowLaws.{get_d_part}
use Rattle.shares.specs.ShareWords.{polynomial_of, share_words-listed}

-- word j of the words of constant i is one of the random words
pub word-within : (l t i j : ℕ) → i < l → j < t → i * t + j < l * t
word-within l t i j hi hj = omega (arith, mul-le-mul_right t hi)

-- the columns of the longest list, and of a secret as long
pub columns_most : (l t : ℕ) → l ≤ 952 → t ≤ 7 → l * (t + 1) ≤ 7616
columns_most l t hl ht = mul-le-mul {n₂ = 952} {m₂ = 8} hl (omega arith)

module _ (t : ℕ) (constants random : List ℕ) where
  length_column : (j : ℕ) → length (column_of t constants random j) ≡ length constants
  unfolding column_of
  length_column zero = refl
  length_column (suc j) = length-listed (λ i. get_or random (i * t + j) 0) (length constants)

  pub length_columns : length (columns_of t constants random) ≡ length constants * suc t
  unfolding columns_of
  length_columns = length-pieces (length constants) (column_of t constants random) (suc t) (λ j h. length_column j) ∙ mul_comm (suc t) (length constants)

  get_d_columns : (j i : ℕ) → j < suc t → i < length constants
      → get_or (columns_of t constants random) (length constants * j + i) 0 ≡ get_or (column_of t constants random j) i 0
  unfolding columns_of
  get_d_columns j i hj hi =
      let l = length constants in
      let f = column_of t constants random in
      sym (get_d_part (pieces f (suc t)) l j i hi) ∙ ap (λ (ys : List ℕ). get_or ys i 0) (part-pieces l f (suc t) (λ k h. length_column k) j hj)

  -- across the cut's columns stand the polynomials of the constants
  module _ (size : length random ≡ length constants * t) where
    below_columns_of : (q : ℕ) → Below q constants → Below q random → (j : ℕ) → j < suc t → Below q (column_of t constants random j)
    unfolding column_of
    below_columns_of q bc br zero hj = bc
    below_columns_of q bc br (suc j) hj =
        below_listed q _ (length constants) (λ i hi. br (i * t + j) (rw size (word-within (length constants) t i j hi (le_of_suc-le-suc hj))))

    pub below_columns : (q : ℕ) → Below q constants → Below q random → Below q (columns_of t constants random)
    unfolding columns_of
    below_columns q bc br = below_pieces q (column_of t constants random) (suc t) (below_columns_of q bc br)

    length_polynomial : (i : ℕ) → i < length constants → length (polynomial_of t constants random i) ≡ suc t
    length_polynomial i h = rw (length-take, length-drop, size) (omega (arith, mul-le-mul_right t h))

    coefficient : (j i : ℕ) → j < suc t → i < length constants → get_or (column_of t constants random j) i 0 ≡ get_or (polynomial_of t constants random i) j 0
    unfolding column_of
    coefficient zero i hj hi = refl
    coefficient (suc j) i hj hi =
        rw (get_d_listed (λ i. get_or random (i * t + j) 0) (length constants) i hi, get_or-take t (drop (i * t) random) j 0 (le_of_suc-le-suc hj), get_or-drop)

    across_columns : (i : ℕ) → i < length constants → across (columns_of t constants random) (length constants) t i ≡ polynomial_of t constants random i
    unfolding across
    across_columns i h =
        sym (listed_is _ (suc t) (polynomial_of t constants random i) (length_polynomial i h) (λ j hj. sym (get_d_columns j i hj h ∙ coefficient j i hj h)))

    pub values_shares : (O : Ops) (x : ℕ)
        → values_from O (columns_of t constants random) (length constants) t x 0 ≡ share_words O t x constants random
    unfolding values_from
    values_shares O x =
        listed_same _ _ (length constants) (λ i h. ap (λ (p : List ℕ). eval O p x) (across_columns i h))
        ∙ sym (share_words-listed O t x constants random)
