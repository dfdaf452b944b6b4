-- The carried word, point by point, by the places of the points, and on a polynomial: there it is the polynomial's value.
-- Assumes nothing.
use Rattle.std.specs.Prelude.{ℕ, ◌+◌, ◌≤◌, ◌<◌, ◌≡◌, refl, List, map, length, get_or}
use Rattle.std.proofs.Common.{sym, ap₂, ◌∙◌, add-one}
use Rattle.lists.specs.Below.{Below}
use Rattle.lists.specs.Listed.{listed, get_d_listed}
use Rattle.lists.specs.Map.{get_d_map}
use Rattle.algebra.specs.Combine.{combine, combine_same, combine_value, factors}
use Rattle.algebra.specs.Factor.{factor}
use Rattle.algebra.specs.Field.{Ops, IsField}
use Rattle.algebra.specs.Mixed.{mixed}
use Rattle.algebra.specs.Points.{Points}
use Rattle.algebra.specs.Poly.{eval}
use Rattle.weigh.specs.Weigh.{carried}

-- what the first k points come to
abbrev pub partly : Ops → List ℕ → (ℕ → ℕ) → ℕ → ℕ → ℕ
partly O xs y x k = combine O (map y xs) (factors O xs x) k

pub partly_next : (O : Ops) (xs : List ℕ) (y : ℕ → ℕ) (x k : ℕ) → k < length xs
    → partly O xs y x (k + 1) ≡ O.add (partly O xs y x k) (O.mul (y (get_or xs k 0)) (factor O xs (get_or xs k 0) x))
unfolding combine
partly_next O xs y x k h =
    rw add-one
    (ap₂ (λ u v. O.add (partly O xs y x k) (O.mul u v)) (get_d_map y xs k h) (get_d_map (λ a. factor O xs a x) xs k h))

-- the values by the places of their points, mixed by the points' factors
pub mixed-carried : (O : Ops) (xs : List ℕ) (y : ℕ → ℕ) (x : ℕ) → mixed O (factors O xs x) (length xs) (λ k. y (get_or xs k 0)) ≡ carried O xs y x
mixed-carried O xs y x =
    combine_same O (listed (λ k. y (get_or xs k 0)) (length xs)) (map y xs) (factors O xs x) (factors O xs x) (length xs)
    (λ i h. get_d_listed (λ k. y (get_or xs k 0)) (length xs) i h ∙ sym (get_d_map y xs i h)) (λ i h. refl)

module _ {O : Ops} (F : IsField O) (xs : List ℕ) (y : ℕ → ℕ) (x : ℕ) where
  pub carried_value : (p : List ℕ) → Points O.q xs → length p ≤ length xs → Below O.q p
      → ((i : ℕ) → i < length xs → y (get_or xs i 0) ≡ eval O p (get_or xs i 0)) → carried O xs y x ≡ eval O p x
  carried_value p P l b each =
      combine_value F xs p x P l b (map y xs) (factors O xs x)
      (λ i h. get_d_map y xs i h ∙ each i h) (λ i h. get_d_map (λ a. factor O xs a x) xs i h)
