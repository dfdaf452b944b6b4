-- Lists that lie within a set.
-- Assumes nothing.
use Rattle.std.specs.Prelude.{ℕ, ◌≡◌, refl, Bool, true, ◌&&◌, List, [], ◌∷◌}
use Rattle.std.proofs.Common.{ap, ◌∙◌, inl, inr}
use Rattle.std.proofs.Math.Bool.{and-eq-true_iff}
use Rattle.lists.specs.Folded.{folded_same}
use Rattle.lists.specs.Member.{In}

-- each number of a list passes a test: they lie within the set of those that do
unfoldable pub within : (ℕ → Bool) → List ℕ → Bool
within a [] = true
within a (x ∷ xs) = a x && within a xs

pub within-each : (a : ℕ → Bool) (z : List ℕ) → within a z ≡ true → (x : ℕ) → In x z → a x ≡ true
unfolding within
within-each a [] e x m = absurd m
within-each a (y ∷ z) e x (inl s) = ap a s ∙ ((and-eq-true_iff (a y) (within a z)).0 e).0
within-each a (y ∷ z) e x (inr m) = within-each a z ((and-eq-true_iff (a y) (within a z)).0 e).1 x m

pub each_within : (a : ℕ → Bool) (z : List ℕ) → ((x : ℕ) → In x z → a x ≡ true) → within a z ≡ true
unfolding within
each_within a [] h = refl
each_within a (y ∷ z) h = (and-eq-true_iff (a y) (within a z)).1 (h y (inl refl), each_within a z (λ x m. h x (inr m)))

pub within_same : (a b : ℕ → Bool) (z : List ℕ) → ((x : ℕ) → In x z → a x ≡ b x) → within a z ≡ within b z
unfolding within
within_same = folded_same within (λ x b rest. b && rest) (λ a b. refl) (λ a x z. refl)
