-- Horner's rule: the value of a polynomial from place j on, from its highest coefficient down.
-- Assumes nothing.
use Prim.Native.Nat.{ℕ, zero, suc, ◌-◌, ◌<◌, ◌≤◌}
use Rattle.std.specs.Prelude.{◌≡◌, List, ◌∷◌, length, get_or, drop}
use Rattle.std.proofs.Common.{sym, ◌∙◌, not-suc-le-zero, sub-one}
use Rattle.std.proofs.Math.Path.{ap}
use native.Mathlib.Omega.{arith}
use Rattle.std.proofs.Math.Seq.{drop-length, drop-cons}
use Rattle.algebra.specs.Field.{Ops}
use Rattle.algebra.specs.Poly.{eval}

module _ (O : Ops) (p : List ℕ) (x : ℕ) where
  -- past the end it is 0
  pub horner_none : eval O (drop (length p) p) x ≡ 0
  unfolding eval
  horner_none = rw drop-length

  -- one place down
  pub horner_more : (j : ℕ) → 0 < j → j ≤ length p
      → eval O (drop (j - 1) p) x ≡ O.add (get_or p (j - 1) 0) (O.mul x (eval O (drop j p) x))
  unfolding eval
  horner_more zero h within = absurd (not-suc-le-zero h)
  horner_more (suc j) h within = rw (sub-one, drop-cons p j 0 within)

  -- the same of numbers that a program holds: the value so far, its product with x, and the sum
  module _ (j value product sum : ℕ) (so_far : value ≡ eval O (drop j p) x) (times : product ≡ O.mul x value) where
    pub horner_step : 0 < j → j ≤ length p → sum ≡ O.add (get_or p (j - 1) 0) product → sum ≡ eval O (drop (j - 1) p) x
    horner_step h within plus = plus ∙ ap (O.add (get_or p (j - 1) 0)) (times ∙ ap (O.mul x) so_far) ∙ sym (horner_more j h within)

    -- and at last the constant before them
    pub horner_last : (constant : ℕ) → j ≤ 0 → sum ≡ O.add constant product → sum ≡ eval O (constant ∷ p) x
    unfolding eval
    horner_last constant h plus =
        let all : j ≡ 0 = omega arith in
        plus ∙ ap (O.add constant) (times ∙ ap (O.mul x) (rw all at so_far))
