-- Numbers in their order: `from a k` is the k numbers a, a + 1, and so on. The keepers of an order are `from 1 n`.
-- Assumes nothing.
use Rattle.std.specs.Prelude.{ℕ, zero, suc, ◌+◌, ◌≤◌, ◌<◌, ◌≡◌, refl, List, [], ◌∷◌, ◌++◌, length, get_or}
use Rattle.std.proofs.Common.{ap, sym, ◌∙◌, inl, inr, ⊎_elim, zero-add, add-zero, suc-add, eq-or-lt_of_le, arith}
use Rattle.lists.specs.Below.{Below}
use Rattle.lists.specs.Different.{Different}
use Rattle.lists.specs.Member.{In, in_get_d}

unfoldable pub from : ℕ → ℕ → List ℕ
from a zero = []
from a (suc k) = a ∷ from (suc a) k

pub length_from : (a k : ℕ) → length (from a k) ≡ k
unfolding from
length_from a zero = refl
length_from a (suc k) = ap suc (length_from (suc a) k)

suc-add-suc : (a k : ℕ) → suc a + k ≡ a + suc k
suc-add-suc a k = omega arith

-- one more stands at the end
pub from_suc : (a k : ℕ) → from a (suc k) ≡ from a k ++ ((a + k) ∷ [])
unfolding from
from_suc a zero = rw (add-zero a)
from_suc a (suc k) = ap {B = List ℕ} (λ r. a ∷ r) (from_suc (suc a) k ∙ rw (suc-add-suc a k))

-- the first k of them, and the rest
pub from-add : (a k d : ℕ) → from a (k + d) ≡ from a k ++ from (a + k) d
unfolding from
from-add a zero d = rw (zero-add d, add-zero a)
from-add a (suc k) d = rw (suc-add k d) (ap {B = List ℕ} (λ r. a ∷ r) (from-add (suc a) k d ∙ rw (suc-add-suc a k)))

-- to stand among them is to lie from a up to a + k
pub from_in : (a k x : ℕ) → In x (from a k) → (a ≤ x) × (x < a + k)
unfolding from
from_in a zero x m = absurd m
from_in a (suc k) x (inl e) = omega arith
from_in a (suc k) x (inr m) = let h = from_in (suc a) k x m in omega arith

pub in_from : (a k x : ℕ) → a ≤ x → x < a + k → In x (from a k)
unfolding from
in_from a zero x l h = omega arith
in_from a (suc k) x l h = ⊎_elim (λ e. inl (sym e)) (λ g. inr (in_from (suc a) k x g (omega arith))) (eq-or-lt_of_le l)

pub different_from : (a k : ℕ) → Different (from a k)
unfolding from
different_from a zero = tt
different_from a (suc k) = ((λ m. let h = from_in (suc a) k a m in omega arith), different_from (suc a) k)

pub below_from : (q a k : ℕ) → a + k ≤ q → Below q (from a k)
below_from q a k l i h = let e = from_in a k (get_or (from a k) i 0) (in_get_d (from a k) i h) in omega arith
