-- Arithmetic modulo 257 is a field.
-- Assumes nothing.
use Rattle.std.specs.Prelude.{◌%◌}
use Rattle.std.proofs.Common.{mod-eq_of_lt, mul_assoc, mul-add, arith}
use Rattle.std.proofs.Math.Nat.{mod-add-mod, add-mod-mod}
use Rattle.lists.specs.Modulus.{mod-mul-mod, mul-mod-mod}
use Rattle.algebra.specs.Field.{IsField}
use Rattle.field.specs.Modulo.{mod257}
use Rattle.field.proofs.Table.{entry_lt, product_one}

pub mod257_field : IsField mod257
mod257_field = record {
  minus_one = 256;
  one_lt = omega arith;
  add_lt = λ a b. omega arith;
  sub_lt = λ a b. omega arith;
  mul_lt = λ a b. omega arith;
  inv_lt = λ a. entry_lt (a % 257) (omega arith);
  add_comm = λ a b. omega arith;
  add_assoc = λ a b c. omega arith;
  add-zero = λ a h. omega arith;
  mul_comm = λ a b. omega arith;
  mul_assoc = λ a b c. simp (mod-mul-mod, mul-mod-mod, mul_assoc);
  mul_one = λ a h. omega arith;
  mul-add = λ a b c. simp (mul-mod-mod, mod-add-mod, add-mod-mod, mul-add);
  sub_as_add = λ a b. omega arith;
  sub_self = λ a. omega arith;
  mul-inv = λ a h other. rw (mod-eq_of_lt h) (product_one a h other);
}
