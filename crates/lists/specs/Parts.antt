-- A part of a list: what is left of a front, past its first numbers.
-- Assumes nothing.
use Rattle.std.specs.Prelude.{ℕ, zero, suc, ◌-◌, ◌≡◌, List, [], ◌∷◌, take, drop}
use Rattle.std.proofs.Math.Nat.{sub-zero, suc-sub-suc, zero-sub}
use Rattle.std.proofs.Math.Seq.{take-nil}

pub drop-take : (m n : ℕ) (xs : List ℕ) → drop m (take n xs) ≡ take (n - m) (drop m xs)
drop-take zero n xs = rw sub-zero
drop-take (suc m) zero xs = rw zero-sub
drop-take (suc m) (suc n) [] = rw take-nil
drop-take (suc m) (suc n) (x ∷ xs) = rw suc-sub-suc (drop-take m n xs)
