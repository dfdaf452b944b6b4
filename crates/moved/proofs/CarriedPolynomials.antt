-- Polynomials that each have a constant and random words behind it, mixed with factors, are the polynomials of the mixed constants and the mixed random words.
-- Assumes nothing.
use Rattle.std.specs.Prelude.{ℕ, zero, suc, ◌+◌, ◌*◌, ◌<◌, ◌≡◌, List, length, take, drop}
use Rattle.std.proofs.Common.{sym, ap, ◌∙◌, mul-le-mul_right, le_of_suc-le-suc, suc-mul, arith, length-drop, length-take-le, get_or-take, get_or-drop}
use Rattle.std.proofs.Math.ListN.{get_or}
use Rattle.lists.specs.Below.{Below}
use Rattle.lists.specs.Listed.{listed, listed_is, length-listed, get_d_listed, below_listed}
use Rattle.algebra.specs.Combine.{factors}
use Rattle.algebra.specs.Field.{Ops, IsField}
use Rattle.algebra.specs.Mixed.{mixed, mixed_same, mixed_lt, mixed-eval}
use Rattle.algebra.specs.Poly.{eval}
use Rattle.shares.specs.ShareWords.{polynomial_of}
use Rattle.moved.specs.Moved.{weighted_sums}

-- the random words of place i of l
module _ (l t i : ℕ) (row : List ℕ) where
  pub length_row : i < l → length row ≡ l * t → length (take t (drop (i * t) row)) ≡ t
  length_row h s = length-take-le t (drop (i * t) row) (rw length-drop (omega (arith, mul-le-mul_right t h, suc-mul i t)))

  pub get_d_row : (j : ℕ) → j < t → get_or (take t (drop (i * t) row)) j 0 ≡ get_or row (i * t + j) 0
  get_d_row j g = get_or-take t (drop (i * t) row) j 0 g ∙ get_or-drop (i * t) row j 0

-- they end within those of all places
pub row_within : (l t i j : ℕ) → i < l → j < t → i * t + j < l * t
row_within l t i j h g = omega (arith, mul-le-mul_right t h, suc-mul i t)

module _ (O : Ops) (froms : List ℕ) (lists : ℕ → List ℕ) (count : ℕ) where
  pub length-sums : length (weighted_sums O froms lists count) ≡ count
  unfolding weighted_sums
  length-sums = length-listed _ count

  pub get_d_sums : (i : ℕ) → i < count → get_or (weighted_sums O froms lists count) i 0 ≡ mixed O (factors O froms 0) (length froms) (λ k. get_or (lists k) i 0)
  unfolding weighted_sums
  get_d_sums i h = get_d_listed (λ i. mixed O (factors O froms 0) (length froms) (λ k. get_or (lists k) i 0)) count i h

  pub below_sums : IsField O → Below O.q (weighted_sums O froms lists count)
  unfolding weighted_sums
  below_sums F = below_listed O.q _ count (λ i h. mixed_lt F (factors O froms 0) (length froms) (λ k. get_or (lists k) i 0))

module _ {O : Ops} (F : IsField O) (froms : List ℕ) (constants random : ℕ → List ℕ) (l t : ℕ)
    (size : (k : ℕ) → k < length froms → length (random k) ≡ l * t) (i : ℕ) (h : i < l) where
  -- the polynomial of the sums at place i
  abbrev sums : List ℕ
  sums = polynomial_of t (weighted_sums O froms constants l) (weighted_sums O froms random (l * t)) i

  -- the coefficients at j, mixed
  abbrev coefficient : ℕ → ℕ
  coefficient j = mixed O (factors O froms 0) (length froms) (λ k. get_or (polynomial_of t (constants k) (random k) i) j 0)

  sums-mixed : sums ≡ listed coefficient (suc t)
  sums-mixed = listed_is coefficient (suc t) sums (ap suc (length_row l t i (weighted_sums O froms random (l * t)) h (length-sums O froms random (l * t)))) each
    where
      each : (j : ℕ) → j < suc t → get_or sums j 0 ≡ coefficient j
      each zero g = get_d_sums O froms constants l i h
      each (suc j) g =
          let within = le_of_suc-le-suc g in
          get_d_row l t i (weighted_sums O froms random (l * t)) j within
          ∙ get_d_sums O froms random (l * t) (i * t + j) (row_within l t i j h within)
          ∙ mixed_same O (factors O froms 0) (length froms) _ _ (λ k e. sym (get_d_row l t i (random k) j within))

  -- their values, mixed, are its value
  pub sums_value : (x : ℕ) → mixed O (factors O froms 0) (length froms) (λ k. eval O (polynomial_of t (constants k) (random k) i) x) ≡ eval O sums x
  sums_value x =
      mixed-eval F (factors O froms 0) (length froms) (λ k. polynomial_of t (constants k) (random k) i) (suc t) x (λ k e. ap suc (length_row l t i (random k) h (size k e)))
      ∙ ap (λ (p : List ℕ). eval O p x) (sym sums-mixed)
