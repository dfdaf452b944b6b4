-- Zeros, and zeros after a list.
-- Assumes nothing.
use Rattle.std.specs.Prelude.{ℕ, zero, suc, ◌-◌, ◌≡◌, refl, List, [], ◌∷◌, ◌++◌, get_or, drop, replicate}
use Rattle.std.proofs.Math.Nat.{sub-zero, zero-sub, suc-sub-suc}
use Rattle.std.proofs.Common.{arith}
use Rattle.lists.specs.Below.{Below, below_nil, below_cons}

pub below_zeros : (q k : ℕ) → Below (suc q) (replicate k 0)
below_zeros q zero = below_nil (suc q)
below_zeros q (suc k) = below_cons (suc q) 0 (replicate k 0) (omega arith) (below_zeros q k)

get_d_zeros : (k i : ℕ) → ◌≡◌ {A = ℕ} (get_or (replicate k 0) i 0) 0
get_d_zeros zero i = refl
get_d_zeros (suc k) zero = refl
get_d_zeros (suc k) (suc i) = get_d_zeros k i

pub get_d_append_zeros : (xs : List ℕ) (k i : ℕ) → get_or (xs ++ replicate k 0) i 0 ≡ get_or xs i 0
get_d_append_zeros [] k i = get_d_zeros k i
get_d_append_zeros (x ∷ xs) k zero = refl
get_d_append_zeros (x ∷ xs) k (suc i) = get_d_append_zeros xs k i

pub drop_zeros : (m n : ℕ) → drop {A = ℕ} m (replicate n 0) ≡ replicate (n - m) 0
drop_zeros zero n = rw sub-zero
drop_zeros (suc m) zero = rw zero-sub
drop_zeros (suc m) (suc n) = rw suc-sub-suc (drop_zeros m n)
