-- Words that are the values of a polynomial at the old keepers are carried to its constant: the factors "carry the old values to zero".
-- Assumes nothing.
use Rattle.std.specs.Prelude.{ℕ, suc, ◌*◌, ◌<◌, ◌≡◌, List, length, get_or, take, drop}
use Rattle.std.proofs.Common.{◌∙◌, arith}
use Rattle.lists.specs.Below.{Below, below_take, below_drop}
use Rattle.algebra.specs.Combine.{factors}
use Rattle.algebra.specs.Field.{Ops, IsField}
use Rattle.algebra.specs.Mixed.{mixed_same, mixed_value}
use Rattle.algebra.specs.Points.{Points}
use Rattle.algebra.specs.Poly.{eval, Degree, degree_cons}
use Rattle.shares.specs.ShareWords.{polynomial_of}
use Rattle.moved.proofs.CarriedPolynomials.{length_row, get_d_sums}
use Rattle.moved.specs.Moved.{weighted_sums}

module _ {O : Ops} (F : IsField O) (froms : List ℕ) (t : ℕ) (P : Points O.q froms) (many : length froms ≡ suc t) where
  pub carried_value : (lists : ℕ → List ℕ) (count : ℕ) (p : List ℕ) → Degree O t p → (i : ℕ) → i < count
      → ((k : ℕ) → k < length froms → get_or (lists k) i 0 ≡ eval O p (get_or froms k 0)) → get_or (weighted_sums O froms lists count) i 0 ≡ eval O p 0
  carried_value lists count p d i h each =
      get_d_sums O froms lists count i h
      ∙ mixed_same O (factors O froms 0) (length froms) _ _ each
      ∙ mixed_value F froms p 0 P (omega arith) d.below

-- the polynomial of one constant has degree at most t
pub degree_polynomial : (O : Ops) (t : ℕ) (constants random : List ℕ) → Below O.q constants → length random ≡ length constants * t → Below O.q random
    → (i : ℕ) → i < length constants → Degree O t (polynomial_of t constants random i)
degree_polynomial O t constants random b s r i h =
    degree_cons O t (get_or constants i 0) (take t (drop (i * t) random)) (b i h) (length_row (length constants) t i random h s)
    (below_take O.q t (drop (i * t) random) (below_drop O.q (i * t) random r))
