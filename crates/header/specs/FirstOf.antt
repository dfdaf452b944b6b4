-- Of the numbers of two things that may be wrong, 0 where one is right: the first that is not 0.
-- Assumes nothing.
use Rattle.std.specs.Prelude.{ℕ, zero, suc, ◌≡◌, refl, cond, eqb}
use Rattle.std.proofs.Common.{arith, eq-eqb, ne_eqb}
use Rattle.std.proofs.Math.Dec.{eqb-suc-zero}

abbrev pub first_of : ℕ → ℕ → ℕ
first_of one two = cond (eqb one 0) two one

pub first_right : (one two : ℕ) → one ≡ 0 → first_of one two ≡ two
first_right one two e = rw (eq-eqb one 0 e)

pub first_wrong : (one two : ℕ) → (one ≡ 0 → ⊥) → first_of one two ≡ one
first_wrong one two other = rw (ne_eqb one 0 other)

pub both_right : (one two : ℕ) → first_of one two ≡ 0 → (one ≡ 0) × (two ≡ 0)
both_right zero two e = (refl, e)
both_right (suc one) two e = absurd (omega (arith, rw eqb-suc-zero at e))
