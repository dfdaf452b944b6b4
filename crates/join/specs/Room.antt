-- The room lent to a join: the front of an array of zeros.
-- Assumes nothing.
use Rattle.std.specs.Prelude.{ℕ, zero, suc, ◌≤◌, ◌≡◌, refl, List, ◌∷◌, length, take, replicate}
use Rattle.std.proofs.Common.{sym, ap, ◌∙◌, le_of_suc-le-suc, not-suc-le-zero}
use Rattle.std.proofs.lemmas.List.{length-replicate}

pub take_zeros : (l n : ℕ) → l ≤ n → take {A = ℕ} l (replicate n 0) ≡ replicate l 0
take_zeros zero n h = refl
take_zeros (suc l) zero h = absurd (not-suc-le-zero h)
take_zeros (suc l) (suc n) h = ap (λ (zs : List ℕ). 0 ∷ zs) (take_zeros l n (le_of_suc-le-suc h))

pub length_front : (l n : ℕ) → l ≤ n → l ≡ length (take {A = ℕ} l (replicate n 0))
length_front l n h = sym (ap length (take_zeros l n h) ∙ length-replicate l 0)
