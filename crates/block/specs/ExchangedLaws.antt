-- A word with its bytes exchanged is minus the word, modulo 257. So the check words of a row's words, exchanged back, are minus the row's own sums.
-- Assumes nothing.
use Rattle.std.specs.Prelude.{ℕ, zero, suc, ◌+◌, ◌*◌, ◌/◌, ◌%◌, ◌^◌, ◌<◌, ◌≡◌, List, length, get_or}
use Rattle.std.proofs.Common.{◌∙◌, mul-add, mul_assoc, arith}
use Rattle.std.proofs.Math.Nat.{add-mul-mod_self_left}
use Rattle.lists.specs.Listed.{get_d_listed}
use Rattle.lists.specs.Modulus.{mod-mul-mod, mul-mod-mod}
use Rattle.lists.specs.Total.{total, total_same_mod}
use Rattle.block.specs.Check.{plain_check, weighted_check}
use Rattle.block.specs.Words.{exchanged, exchanged_all}

-- 256 is minus one
exchanged_minus : (x : ℕ) → 256 * x % 257 ≡ exchanged x % 257
exchanged_minus x =
    let more : 256 * x ≡ exchanged x + 257 * (255 * (x / 256)) = omega arith in
    rw (more, add-mul-mod_self_left (exchanged x) 257 (255 * (x / 256)))

total_times : (a : ℕ) (f : ℕ → ℕ) (k : ℕ) → a * total f k ≡ total (λ i. a * f i) k
unfolding total
total_times a f zero = omega arith
total_times a f (suc k) = rw (mul-add, total_times a f k)

total_minus : (f g : ℕ → ℕ) (k : ℕ) → ((i : ℕ) → i < k → 256 * f i % 257 ≡ g i % 257) → 256 * (total f k % 257) % 257 ≡ total g k % 257
total_minus f g k each = mul-mod-mod 256 (total f k) 257 ∙ rw (total_times 256 f k) (total_same_mod 257 (λ i. 256 * f i) g k each)

pub exchanged-word : (row : List ℕ) (i : ℕ) → i < length row → get_or (exchanged_all row) i 0 ≡ exchanged (get_or row i 0)
exchanged-word row = get_d_listed (λ k. exchanged (get_or row k 0)) (length row)

module _ (row : List ℕ) (size : length row ≡ 256) where
  word : (i : ℕ) → i < 254 → get_or (exchanged_all row) i 0 ≡ exchanged (get_or row i 0)
  word i h = exchanged-word row i (omega arith)

  pub plain_minus : 256 * (total (λ i. get_or row i 0) 254 % 257) % 257 ≡ plain_check (exchanged_all row)
  plain_minus =
      total_minus (λ i. get_or row i 0) (λ i. get_or (exchanged_all row) i 0) 254
      (λ i h. rw (word i h) (exchanged_minus (get_or row i 0)))

  product : (i : ℕ) → i < 254 → 256 * (get_or row i 0 * (3 ^ i % 257)) % 257 ≡ get_or (exchanged_all row) i 0 * 3 ^ i % 257
  product i h =
      let x = get_or row i 0 in
      rw (word i h, ← mul_assoc 256 x (3 ^ i % 257), mul-mod-mod (256 * x) (3 ^ i) 257, ← mod-mul-mod (256 * x) 257 (3 ^ i), exchanged_minus x)
      (mod-mul-mod (exchanged x) 257 (3 ^ i))

  pub weighted_minus : 256 * (total (λ i. get_or row i 0 * (3 ^ i % 257)) 254 % 257) % 257 ≡ weighted_check (exchanged_all row)
  weighted_minus = total_minus (λ i. get_or row i 0 * (3 ^ i % 257)) (λ i. get_or (exchanged_all row) i 0 * 3 ^ i) 254 product
