-- The rule of the table of reciprocals: one test, computed over the whole table, and what it says at each index.
-- Assumes nothing.
use Rattle.std.specs.Prelude.{ℕ, zero, suc, ◌*◌, ◌%◌, ◌<◌, ◌≡◌, refl, Bool, true, ◌&&◌, ltb, eqb, get_or}
use Rattle.std.proofs.Math.Bool.{and-eq-true_iff}
use Rattle.std.proofs.Common.{arith, ltb-true, eqb-true}
use Rattle.lists.specs.Every.{every, every-at}
use Rattle.field.specs.Modulo.{reciprocals}

-- "entry 0 being 0: each other entry times its index leaves remainder 1"
abbrev inverts : ℕ → ℕ → Bool
inverts zero entry = eqb entry 0
inverts (suc i) entry = eqb (suc i * entry % 257) 1

abbrev suits : ℕ → ℕ → Bool
suits i entry = ltb entry 257 && inverts i entry

tested : every suits 0 reciprocals ≡ true
unfolding reciprocals
tested = refl

suited : (a : ℕ) → a < 257 → (ltb (get_or reciprocals a 0) 257 ≡ true) × (inverts a (get_or reciprocals a 0) ≡ true)
unfolding reciprocals
suited a h = (and-eq-true_iff _ _).0 (every-at suits reciprocals tested a h)

pub entry_lt : (a : ℕ) → a < 257 → get_or reciprocals a 0 < 257
entry_lt a h = ltb-true _ _ (suited a h).0

pub entry_zero : get_or reciprocals 0 0 ≡ 0
entry_zero = eqb-true _ _ (suited 0 (omega arith)).1

pub product_one : (a : ℕ) → a < 257 → (a ≡ 0 → ⊥) → a * get_or reciprocals a 0 % 257 ≡ 1
product_one zero h other = absurd (other refl)
product_one (suc i) h other = eqb-true _ _ (suited (suc i) h).1
