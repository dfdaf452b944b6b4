-- Modulo 257 the inverse of any product is the product of the inverses: entry 0 of the table is 0.
-- Assumes nothing.
use Rattle.std.specs.Prelude.{ℕ, ◌*◌, ◌%◌, ◌≡◌}
use Rattle.std.proofs.Common.{sym, ◌∙◌, mul_comm, arith}
use Rattle.std.proofs.Math.Logic.{by_cases}
use Rattle.std.proofs.Math.Decide.{dec_lt}
use Rattle.std.proofs.Math.Nat.{mod-mod}
use Rattle.lists.specs.Modulus.{mod-mul-mod, mul-mod-mod}
use Rattle.algebra.specs.Fraction.{inv-mul}
use Rattle.field.proofs.Laws.{mod257_field}
use Rattle.field.specs.Modulo.{mod257}
use Rattle.field.proofs.Table.{entry_zero}

abbrev Splits : ℕ → ℕ → Type 0
Splits a b = mod257.inv (mod257.mul a b) ≡ mod257.mul (mod257.inv a) (mod257.inv b)

splits_zero : (a b : ℕ) → a % 257 ≡ 0 → Splits a b
splits_zero a b e =
    let none : a * b % 257 ≡ 0 = sym (mod-mul-mod a 257 b) ∙ rw e (omega arith) in
    rw (none, e, entry_zero) (omega arith)

splits_other : (a b : ℕ) → (a % 257 ≡ 0 → ⊥) → (b % 257 ≡ 0 → ⊥) → Splits a b
splits_other a b na nb =
    let whole = inv-mul mod257_field (a % 257) (b % 257) (omega arith) (omega arith) na nb in
    rw (mod-mul-mod a 257 (b % 257), mul-mod-mod a b 257, mod-mod a 257, mod-mod b 257) at whole

swapped : (a b : ℕ) → Splits b a → Splits a b
swapped a b s = rw (mul_comm a b, mul_comm (mod257.inv a) (mod257.inv b)) s

pub inv_product : (a b : ℕ) → Splits a b
inv_product a b =
    by_cases (dec_lt 0 (a % 257))
    (λ ha. by_cases (dec_lt 0 (b % 257)) (λ hb. splits_other a b (λ e. omega arith) (λ e. omega arith)) (λ hb. swapped a b (splits_zero b a (omega arith))))
    (λ ha. splits_zero a b (omega arith))
