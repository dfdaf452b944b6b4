-- Values times factors, summed over the first k places of two lists, as a loop forms the sum.
-- With the factors of the points it is the value of the one polynomial at the place.
-- Assumes nothing.
use Prim.Native.Nat.{ℕ, zero, suc, ◌≤◌, ◌<◌}
use Rattle.std.specs.Prelude.{◌≡◌, length}
use Rattle.std.proofs.Math.Path.{refl, ap}
use Rattle.std.proofs.Common.{sym, ap₂, ◌∙◌, arith}
use mathlib.Core.List.{List, [], ◌∷◌, map}
use Rattle.std.proofs.Math.ListN.{get_or}
use Rattle.lists.specs.Below.{Below}
use Rattle.lists.specs.Map.{get_d_map}
use Rattle.algebra.specs.Factor.{factor}
use Rattle.algebra.specs.Field.{Ops, IsField}
use Rattle.algebra.specs.Lagrange.{lagrange}
use Rattle.algebra.specs.Points.{Points}
use Rattle.algebra.specs.Poly.{eval}
use Rattle.algebra.specs.Ring.{add_comm, add_assoc}
use Rattle.algebra.specs.Total.{total}

-- of the first k places
unfoldable pub combine : Ops → List ℕ → List ℕ → ℕ → ℕ
combine O ys fs zero = 0
combine O ys fs (suc k) = O.add (combine O ys fs k) (O.mul (get_or ys k 0) (get_or fs k 0))

-- the factor of each point, in the points' order
abbrev pub factors : Ops → List ℕ → ℕ → List ℕ
factors O xs x = map (λ a. factor O xs a x) xs

pub combine_same : (O : Ops) (ys ys' fs fs' : List ℕ) (k : ℕ)
    → ((i : ℕ) → i < k → get_or ys i 0 ≡ get_or ys' i 0) → ((i : ℕ) → i < k → get_or fs i 0 ≡ get_or fs' i 0) → combine O ys fs k ≡ combine O ys' fs' k
unfolding combine
combine_same O ys ys' fs fs' zero hy hf = refl
combine_same O ys ys' fs fs' (suc k) hy hf =
    ap₂ O.add (combine_same O ys ys' fs fs' k (λ i l. hy i (omega arith)) (λ i l. hf i (omega arith))) (ap₂ O.mul (hy k (omega arith)) (hf k (omega arith)))

module _ {O : Ops} (F : IsField O) where
  infixl 60 ◌⊕◌
  infixl 70 ◌⊗◌
  open O use {q, add as ◌⊕◌, mul as ◌⊗◌}

  combine-cons : (y f : ℕ) (ys fs : List ℕ) (k : ℕ) → combine O (y ∷ ys) (f ∷ fs) (suc k) ≡ y ⊗ f ⊕ combine O ys fs k
  unfolding combine
  combine-cons y f ys fs zero = add_comm F 0 (y ⊗ f)
  combine-cons y f ys fs (suc k) = ap (λ (e : ℕ). e ⊕ get_or ys k 0 ⊗ get_or fs k 0) (combine-cons y f ys fs k) ∙ add_assoc F (y ⊗ f) (combine O ys fs k) (get_or ys k 0 ⊗ get_or fs k 0)

  combine-map : (g h : ℕ → ℕ) (xs : List ℕ) → combine O (map g xs) (map h xs) (length xs) ≡ total O (λ a. g a ⊗ h a) xs
  unfolding total combine
  combine-map g h [] = refl
  combine-map g h (x ∷ xs) = combine-cons (g x) (h x) (map g xs) (map h xs) (length xs) ∙ ap (λ (e : ℕ). g x ⊗ h x ⊕ e) (combine-map g h xs)

  module _ (xs p : List ℕ) (x : ℕ) (P : Points q xs) (l : length p ≤ length xs) (b : Below q p) where
    combine-eval : combine O (map (eval O p) xs) (factors O xs x) (length xs) ≡ eval O p x
    combine-eval = combine-map (eval O p) (λ a. factor O xs a x) xs ∙ sym (lagrange F xs p x P l b)

    -- the same of lists known by their places, which may be longer
    pub combine_value : (ys fs : List ℕ) → ((i : ℕ) → i < length xs → get_or ys i 0 ≡ eval O p (get_or xs i 0))
        → ((i : ℕ) → i < length xs → get_or fs i 0 ≡ factor O xs (get_or xs i 0) x) → combine O ys fs (length xs) ≡ eval O p x
    combine_value ys fs hy hf =
        combine_same O ys (map (eval O p) xs) fs (factors O xs x) (length xs)
        (λ i h. hy i h ∙ sym (get_d_map (eval O p) xs i h)) (λ i h. hf i h ∙ sym (get_d_map (λ a. factor O xs a x) xs i h))
        ∙ combine-eval
