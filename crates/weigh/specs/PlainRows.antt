-- A row of plain sums over a row of words for each point: how it begins, how it grows by the row of the next point, and that it is reduced to the mixed words.
-- Assumes nothing.
use Prim.Native.Nat.{ℕ, ◌+◌, ◌*◌, ◌%◌, ◌≤◌, ◌<◌}
use Rattle.std.specs.Prelude.{◌≡◌, length, get_or, take}
use Rattle.std.proofs.Common.{sym, ◌∙◌, le_refl, le_of_suc-le-suc, arith, length-take-le}
use mathlib.Core.List.{List}
use Rattle.std.proofs.Math.ListN.{replicate, length-replicate, get_or-replicate}
use Rattle.std.proofs.Math.Seq.{get_or-take}
use Rattle.lists.specs.Below.{Below}
use Rattle.lists.specs.Listed.{listed, length-listed, get_d_listed, listed_is, listed_same, below_listed}
use Rattle.lists.specs.Total.{total}
use Rattle.algebra.specs.Combine.{factors}
use Rattle.algebra.specs.Factor.{factor, factor_lt}
use Rattle.algebra.specs.Mixed.{mixed}
use Rattle.field.proofs.Laws.{mod257_field}
use Rattle.field.specs.Modulo.{mod257}
use Rattle.weigh.specs.PlainSum.{plainly, plainly_next, plainly_le, plainly-mod}
use Rattle.weigh.specs.Weigh.{Addition}

-- a row of n words for each of a few points, by the point's place
pub record Rows (points : List ℕ) (rows : ℕ → List ℕ) (n : ℕ) : Type 0 where
  pub few : length points ≤ 8
  pub room : n ≤ 952
  pub size : (k : ℕ) → k < length points → length (rows k) ≡ n
  pub words : (k : ℕ) → k < length points → Below 257 (rows k)

-- the sums over the first k points, word by word
abbrev pub plain_row : List ℕ → (ℕ → List ℕ) → ℕ → ℕ → ℕ → List ℕ
plain_row points rows x n k = listed (λ i. plainly points (λ j. get_or (rows j) i 0) x k) n

module _ {points : List ℕ} {rows : ℕ → List ℕ} {n : ℕ} (given : Rows points rows n) (x : ℕ) where
  abbrev sum : ℕ → ℕ → ℕ
  sum k i = plainly points (λ j. get_or (rows j) i 0) x k

  pub row_none : take n (replicate 952 0) ≡ plain_row points rows x n 0
  unfolding total
  row_none =
      let zeros : List ℕ = replicate 952 0 in
      listed_is (sum 0) n (take n zeros) (length-take-le n zeros (omega (arith, length-replicate {A = ℕ} 952 0, given.room)))
      (λ i h. get_or-take n zeros i 0 h ∙ get_or-replicate {A = ℕ} 952 i 0 0 (omega (arith, given.room)))

  word_le : (k : ℕ) → k < length points → (i : ℕ) → i < n → get_or (rows k) i 0 ≤ 256
  word_le k h i l = le_of_suc-le-suc (given.words k h i (omega (arith, given.size k h)))

  sum_lt : (k : ℕ) → k < length points → (i : ℕ) → i < n → sum k i < 524289
  sum_lt k h i l = omega (arith, plainly_le points (λ j. get_or (rows j) i 0) x k (λ j m. word_le j (omega arith) i l), given.few)

  -- to the sums the row of the next point may be added, times its factor
  pub row_addition : (k : ℕ) → k < length points → Addition (plain_row points rows x n k) (rows k) (factor mod257 points (get_or points k 0) x)
  row_addition k h = record {
    size = given.size k h ∙ sym (length-listed (sum k) n);
    words = given.words k h;
    word = le_of_suc-le-suc (factor_lt mod257_field points (get_or points k 0) x);
    room = below_listed 524289 (sum k) n (sum_lt k h);
  }

  -- with it added, they are the sums over one point more
  pub row_next : (k : ℕ)
      → listed (λ i. get_or (plain_row points rows x n k) i 0 + get_or (rows k) i 0 * factor mod257 points (get_or points k 0) x) n ≡ plain_row points rows x n (k + 1)
  row_next k =
      listed_same _ _ n (λ i l. rw (get_d_listed (sum k) n i l) (sym (plainly_next points (λ j. get_or (rows j) i 0) x k)))

  -- reduced, once, they are the mixed words
  pub row_reduced : listed (λ i. get_or (plain_row points rows x n (length points)) i 0 % 257) n
      ≡ listed (λ i. mixed mod257 (factors mod257 points x) (length points) (λ j. get_or (rows j) i 0)) n
  row_reduced =
      listed_same _ _ n
      (λ i l. rw (get_d_listed (sum (length points)) n i l) (plainly-mod points (λ j. get_or (rows j) i 0) x (length points) (le_refl (length points))))
