-- Under a remainder, a factor may be replaced by its own remainder, as the library has it of a summand.
-- Assumes nothing.
use Rattle.std.specs.Prelude.{ℕ, ◌+◌, ◌*◌, ◌/◌, ◌%◌, ◌≡◌}
use Rattle.std.proofs.Common.{sym, ap, ◌∙◌, add-mul, mul_assoc, mul_comm}
use Rattle.std.proofs.Math.Nat.{mod-add-div, add-mul-mod_self_left}

split_factor : (a m b : ℕ) → a * b ≡ a % m * b + m * (a / m * b)
split_factor a m b = ap (λ n. n * b) (sym (mod-add-div a m)) ∙ simp (add-mul, mul_assoc)

pub mod-mul-mod : (a m b : ℕ) → a % m * b % m ≡ a * b % m
mod-mul-mod a m b =
    sym (ap (λ n. n % m) (split_factor a m b) ∙ add-mul-mod_self_left (a % m * b) m (a / m * b))

pub mul-mod-mod : (a b m : ℕ) → a * (b % m) % m ≡ a * b % m
mul-mod-mod a b m = rw (mul_comm a (b % m), mod-mul-mod, mul_comm b a)
