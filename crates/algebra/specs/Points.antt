-- Points: numbers below q, pairwise different. `Points q (0 ∷ xs)` says that the points xs are different and none of them is 0.
-- Assumes nothing.
use Rattle.std.specs.Prelude.{ℕ, ◌+◌, ◌≤◌, ◌<◌, ◌≡◌, Bool, List, ◌∷◌, take}
use Rattle.std.proofs.Common.{subst, inr}
use Rattle.lists.specs.Below.{Below, below_head, below_tail, below_cons, below_take}
use Rattle.lists.specs.Chosen.{chosen, different_chosen, below_chosen}
use Rattle.lists.specs.Different.{Different, different_take}
use Rattle.lists.specs.From.{from, different_from, below_from}
use Rattle.lists.specs.Member.{In, below_in}

pub record Points (q : ℕ) (xs : List ℕ) : Type 0 where
  pub below : Below q xs
  pub different : Different xs

module _ {q x : ℕ} {xs : List ℕ} (P : Points q (x ∷ xs)) where
  pub points_head : x < q
  points_head = below_head q x xs P.below

  pub points_tail : Points q xs
  points_tail = record { below = below_tail q x xs P.below; different = P.different.1 }

  pub points_apart : (y : ℕ) → In y xs → y ≡ x → ⊥
  points_apart y m e = P.different.0 (subst (λ (z : ℕ). In z xs) e m)

pub points_skip : {q a b : ℕ} {xs : List ℕ} → Points q (a ∷ b ∷ xs) → Points q (a ∷ xs)
points_skip {q} {a} {xs = xs} P =
    let T = points_tail (points_tail P) in
    record { below = below_cons q a xs (points_head P) T.below; different = ((λ m. P.different.0 (inr m)), T.different) }

pub points_in : {q : ℕ} {xs : List ℕ} → Points q xs → (x : ℕ) → In x xs → x < q
points_in {q} {xs} P = below_in q xs P.below

pub points_chosen : {q : ℕ} {xs : List ℕ} (f : ℕ → Bool) → Points q xs → Points q (chosen f xs)
points_chosen {q} {xs} f P = record { below = below_chosen q f xs P.below; different = different_chosen f xs P.different }

pub points_take : {q : ℕ} {xs : List ℕ} (n : ℕ) → Points q xs → Points q (take n xs)
points_take {q} {xs} n P = record { below = below_take q n xs P.below; different = different_take n xs P.different }

pub points_from : (q a k : ℕ) → a + k ≤ q → Points q (from a k)
points_from q a k l = record { below = below_from q a k l; different = different_from a k }
