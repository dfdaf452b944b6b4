-- What is made of a list's numbers, one after the other, by a test of each: tests that agree on the list make the same of it.
-- Assumes nothing.
use Rattle.std.specs.Prelude.{ℕ, ◌≡◌, refl, Bool, List, [], ◌∷◌}
use Rattle.std.proofs.Common.{sym, ap₂, ◌∙◌, inl, inr}
use Rattle.lists.specs.Member.{In}

module _ {A : Type 0} (made : (ℕ → Bool) → List ℕ → A) (step : ℕ → Bool → A → A) (none : (f g : ℕ → Bool) → made f [] ≡ made g [])
    (more : (f : ℕ → Bool) (x : ℕ) (xs : List ℕ) → made f (x ∷ xs) ≡ step x (f x) (made f xs)) where
  pub folded_same : (f g : ℕ → Bool) (xs : List ℕ) → ((x : ℕ) → In x xs → f x ≡ g x) → made f xs ≡ made g xs
  folded_same f g [] h = none f g
  folded_same f g (x ∷ xs) h =
      more f x xs ∙ (ap₂ (step x) (h x (inl refl)) (folded_same f g xs (λ y m. h y (inr m))) ∙ sym (more g x xs))
