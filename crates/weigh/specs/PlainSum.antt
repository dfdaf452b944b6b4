-- Values given by a rule of the place, each times the factor of the point there, summed plainly over the first k places; reduced at the end, they are
-- the values mixed modulo 257.
-- Assumes nothing.
use Prim.Native.Nat.{ℕ, zero, suc, ◌+◌, ◌*◌, ◌%◌, ◌≤◌, ◌<◌}
use Rattle.std.specs.Prelude.{◌≡◌, List, length, get_or}
use Rattle.std.proofs.Math.Path.{refl, sym}
use Rattle.std.proofs.Common.{◌∙◌, mul-le-mul}
use Rattle.std.proofs.Math.Nat.{mod-add-mod, add-mod-mod}
use Rattle.std.proofs.Math.Numerals.{add-one}
use native.Mathlib.Omega.{arith}
use Rattle.lists.specs.Map.{get_d_map}
use Rattle.lists.specs.Total.{total}
use Rattle.algebra.specs.Combine.{combine, factors}
use Rattle.algebra.specs.Factor.{factor, factor_lt}
use Rattle.algebra.specs.Mixed.{mixed, mixed_more}
use Rattle.field.proofs.Laws.{mod257_field}
use Rattle.field.specs.Modulo.{mod257}

module _ (xs : List ℕ) (z : ℕ → ℕ) (x : ℕ) where
  abbrev pub plainly : ℕ → ℕ
  plainly k = total (λ j. z j * factor mod257 xs (get_or xs j 0) x) k

  pub plainly_next : (k : ℕ) → plainly (k + 1) ≡ plainly k + z k * factor mod257 xs (get_or xs k 0) x
  unfolding total
  plainly_next k = rw add-one

  product_le : (k : ℕ) → z k ≤ 256 → z k * factor mod257 xs (get_or xs k 0) x ≤ 65536
  product_le k h = mul-le-mul {n₂ = 256} {m₂ = 256} h (omega (arith, factor_lt mod257_field xs (get_or xs k 0) x))

  pub plainly_le : (k : ℕ) → ((j : ℕ) → j < k → z j ≤ 256) → plainly k ≤ k * 65536
  unfolding total
  plainly_le zero within = omega arith
  plainly_le (suc k) within = omega (arith, plainly_le k (λ j h. within j (omega arith)), product_le k (within k (omega arith)))

  mod_next : (k m : ℕ) → k < length xs → plainly k % 257 ≡ m → plainly (suc k) % 257 ≡ mod257.add m (mod257.mul (z k) (get_or (factors mod257 xs x) k 0))
  unfolding total
  mod_next k m h e = rw (get_d_map (λ a. factor mod257 xs a x) xs k h, ← e, mod-add-mod, add-mod-mod)

  pub plainly-mod : (k : ℕ) → k ≤ length xs → plainly k % 257 ≡ mixed mod257 (factors mod257 xs x) k z
  unfolding total combine
  plainly-mod zero h = refl
  plainly-mod (suc k) h =
      mod_next k (mixed mod257 (factors mod257 xs x) k z) h (plainly-mod k (omega arith)) ∙ sym (mixed_more mod257 (factors mod257 xs x) k z)
