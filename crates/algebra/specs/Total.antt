-- The sum of a function's values at the numbers of a list.
-- Assumes nothing.
use Rattle.std.specs.Prelude.{ℕ, ◌≡◌, refl}
use Rattle.std.proofs.Math.Path.{sym, ap}
use Rattle.std.proofs.Common.{ap₂, ◌∙◌, inl, inr}
use mathlib.Core.List.{List, [], ◌∷◌}
use Rattle.lists.specs.Member.{In}
use Rattle.algebra.specs.Field.{Ops, IsField}
use Rattle.algebra.specs.Ring.{ring, zero_lt, mul-zero, mul-add}

unfoldable pub total : Ops → (ℕ → ℕ) → List ℕ → ℕ
total O f [] = 0
total O f (x ∷ xs) = O.add (f x) (total O f xs)

pub total_same : (O : Ops) (f g : ℕ → ℕ) (xs : List ℕ) → ((x : ℕ) → In x xs → f x ≡ g x) → total O f xs ≡ total O g xs
unfolding total
total_same O f g [] h = refl
total_same O f g (x ∷ xs) h = ap₂ O.add (h x (inl refl)) (total_same O f g xs (λ y m. h y (inr m)))

module _ {O : Ops} (F : IsField O) where
  infixl 60 ◌⊕◌
  infixl 70 ◌⊗◌
  open O use {q, add as ◌⊕◌, mul as ◌⊗◌}

  add_pairs : (a b c d : ℕ) → a ⊕ b ⊕ (c ⊕ d) ≡ a ⊕ c ⊕ (b ⊕ d)
  add_pairs a b c d = simp (ring, F)

  pub total-add : (f g : ℕ → ℕ) (xs : List ℕ) → total O (λ x. f x ⊕ g x) xs ≡ total O f xs ⊕ total O g xs
  unfolding total
  total-add f g [] = sym (F.add-zero 0 (zero_lt F))
  total-add f g (x ∷ xs) = ap (λ (s : ℕ). f x ⊕ g x ⊕ s) (total-add f g xs) ∙ add_pairs (f x) (g x) (total O f xs) (total O g xs)

  pub total-mul : (k : ℕ) (f : ℕ → ℕ) (xs : List ℕ) → total O (λ x. k ⊗ f x) xs ≡ k ⊗ total O f xs
  unfolding total
  total-mul k f [] = sym (mul-zero F k)
  total-mul k f (x ∷ xs) = ap (λ (s : ℕ). k ⊗ f x ⊕ s) (total-mul k f xs) ∙ sym (mul-add F k (f x) (total O f xs))
