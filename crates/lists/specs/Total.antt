-- The sum of what a rule gives at 0, 1, .. k - 1: it grows at its end, as a loop over an index does.
-- Assumes nothing.
use Rattle.std.specs.Prelude.{ℕ, zero, suc, ◌+◌, ◌%◌, ◌<◌, ◌≡◌, refl}
use Rattle.std.proofs.Math.Nat.{add-mod}
use Rattle.std.proofs.Common.{arith}
use Rattle.lists.specs.Grown.{grown_same}

unfoldable pub total : (ℕ → ℕ) → ℕ → ℕ
total f zero = 0
total f (suc k) = total f k + f k

pub total_same : (f g : ℕ → ℕ) (k : ℕ) → ((i : ℕ) → i < k → f i ≡ g i) → total f k ≡ total g k
unfolding total
total_same = grown_same total ◌+◌ (λ f g. refl) (λ f k. refl)

-- numbers that leave one remainder sum to numbers that leave one remainder
pub total_same_mod : (m : ℕ) (f g : ℕ → ℕ) (k : ℕ) → ((i : ℕ) → i < k → f i % m ≡ g i % m) → total f k % m ≡ total g k % m
unfolding total
total_same_mod m f g zero h = refl
total_same_mod m f g (suc k) h =
    rw (add-mod (total f k) (f k) m, add-mod (total g k) (g k) m, total_same_mod m f g k (λ i l. h i (omega arith)), h k (omega arith))
