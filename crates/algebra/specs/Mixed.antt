-- Values given by a rule, each times its factor, summed over the first m places: linear in the rule. Polynomials mixed so, coefficient by coefficient, have the mixed values.
-- Assumes nothing.
use Rattle.std.specs.Prelude.{ℕ, zero, suc, ◌≤◌, ◌<◌, ◌≡◌, length, get_or}
use Rattle.std.proofs.Math.Path.{refl, sym, ap}
use Rattle.std.proofs.Common.{ap₂, ◌∙◌, le_of_suc-le-suc, arith}
use mathlib.Core.List.{List, [], ◌∷◌}
use Rattle.lists.specs.Below.{Below}
use Rattle.lists.specs.Listed.{listed, listed_is, listed_same, length-listed, get_d_listed}
use Rattle.lists.specs.Map.{get_d_map}
use Rattle.algebra.specs.Combine.{combine, combine_same, combine_value, factors}
use Rattle.algebra.specs.Factor.{factor}
use Rattle.algebra.specs.Field.{Ops, IsField}
use Rattle.algebra.specs.Points.{Points}
use Rattle.algebra.specs.Poly.{eval}
use Rattle.algebra.specs.Ring.{ring, zero_lt, zero-mul, mul-zero}

-- what m values, given by a rule, come to: each times its factor, summed
abbrev pub mixed : Ops → List ℕ → ℕ → (ℕ → ℕ) → ℕ
mixed O fs m y = combine O (listed y m) fs m

pub mixed_same : (O : Ops) (fs : List ℕ) (m : ℕ) (y z : ℕ → ℕ) → ((k : ℕ) → k < m → y k ≡ z k) → mixed O fs m y ≡ mixed O fs m z
mixed_same O fs m y z h = ap (λ (ys : List ℕ). combine O ys fs m) (listed_same y z m h)

mixed_none : (O : Ops) (fs : List ℕ) (y : ℕ → ℕ) → mixed O fs 0 y ≡ 0
unfolding combine
mixed_none O fs y = refl

-- one value more
pub mixed_more : (O : Ops) (fs : List ℕ) (m : ℕ) (y : ℕ → ℕ) → mixed O fs (suc m) y ≡ O.add (mixed O fs m y) (O.mul (y m) (get_or fs m 0))
unfolding combine
mixed_more O fs m y =
    ap₂ O.add (combine_same O (listed y (suc m)) (listed y m) fs fs m (λ i l. get_d_listed y (suc m) i (omega arith) ∙ sym (get_d_listed y m i l)) (λ i l. refl))
    (ap (λ (e : ℕ). O.mul e (get_or fs m 0)) (get_d_listed y (suc m) m (omega arith)))

-- a list without its head
unfoldable rest : List ℕ → List ℕ
rest [] = []
rest (c ∷ cs) = cs

length_rest : (p : List ℕ) (n : ℕ) → length p ≡ suc n → length (rest p) ≡ n
unfolding rest
length_rest [] n s = absurd (omega arith)
length_rest (c ∷ cs) n s = omega arith

get_d_rest : (p : List ℕ) (j : ℕ) → get_or (rest p) j 0 ≡ get_or p (suc j) 0
unfolding rest
get_d_rest [] j = refl
get_d_rest (c ∷ cs) j = refl

-- what a rule lists, the first apart
listed_first : (f : ℕ → ℕ) (n : ℕ) → f 0 ∷ listed (λ j. f (suc j)) n ≡ listed f (suc n)
listed_first f n = listed_is f (suc n) (f 0 ∷ listed (λ j. f (suc j)) n) (ap suc (length-listed (λ j. f (suc j)) n)) each
  where
    each : (i : ℕ) → i < suc n → get_or (f 0 ∷ listed (λ j. f (suc j)) n) i 0 ≡ f i
    each zero h = refl
    each (suc i) h = get_d_listed (λ j. f (suc j)) n i (le_of_suc-le-suc h)

module _ {O : Ops} (F : IsField O) where
  infixl 60 ◌⊕◌
  infixl 70 ◌⊗◌
  open O use {q, add as ◌⊕◌, mul as ◌⊗◌}

  more_add : (a b v w f : ℕ) → a ⊕ b ⊕ (v ⊕ w) ⊗ f ≡ a ⊕ v ⊗ f ⊕ (b ⊕ w ⊗ f)
  more_add a b v w f = simp (ring, F)

  more_mul : (c a v f : ℕ) → c ⊗ a ⊕ c ⊗ v ⊗ f ≡ c ⊗ (a ⊕ v ⊗ f)
  more_mul c a v f = simp (ring, F)

  eval-rest : (p : List ℕ) (x : ℕ) → eval O p x ≡ get_or p 0 0 ⊕ x ⊗ eval O (rest p) x
  unfolding eval rest
  eval-rest [] x = sym (ap (λ (e : ℕ). 0 ⊕ e) (mul-zero F x) ∙ F.add-zero 0 (zero_lt F))
  eval-rest (c ∷ cs) x = refl

  eval_none : (p : List ℕ) (x : ℕ) → length p ≡ 0 → eval O p x ≡ 0
  unfolding eval
  eval_none [] x s = refl
  eval_none (c ∷ cs) x s = absurd (omega arith)

  module _ (fs : List ℕ) where
    pub mixed_lt : (m : ℕ) (y : ℕ → ℕ) → mixed O fs m y < q
    mixed_lt zero y = rw (mixed_none O fs y) (zero_lt F)
    mixed_lt (suc m) y = rw (mixed_more O fs m y) (F.add_lt (mixed O fs m y) (y m ⊗ get_or fs m 0))

    pub mixed-add : (m : ℕ) (y z : ℕ → ℕ) → mixed O fs m (λ k. y k ⊕ z k) ≡ mixed O fs m y ⊕ mixed O fs m z
    mixed-add zero y z = mixed_none O fs (λ k. y k ⊕ z k) ∙ sym (ap₂ ◌⊕◌ (mixed_none O fs y) (mixed_none O fs z) ∙ F.add-zero 0 (zero_lt F))
    mixed-add (suc m) y z =
        mixed_more O fs m (λ k. y k ⊕ z k)
        ∙ ap (λ (s : ℕ). s ⊕ (y m ⊕ z m) ⊗ get_or fs m 0) (mixed-add m y z)
        ∙ more_add (mixed O fs m y) (mixed O fs m z) (y m) (z m) (get_or fs m 0)
        ∙ sym (ap₂ ◌⊕◌ (mixed_more O fs m y) (mixed_more O fs m z))

    pub mixed-mul : (m c : ℕ) (y : ℕ → ℕ) → mixed O fs m (λ k. c ⊗ y k) ≡ c ⊗ mixed O fs m y
    mixed-mul zero c y = mixed_none O fs (λ k. c ⊗ y k) ∙ sym (ap (λ (s : ℕ). c ⊗ s) (mixed_none O fs y) ∙ mul-zero F c)
    mixed-mul (suc m) c y =
        mixed_more O fs m (λ k. c ⊗ y k)
        ∙ ap (λ (s : ℕ). s ⊕ c ⊗ y m ⊗ get_or fs m 0) (mixed-mul m c y)
        ∙ more_mul c (mixed O fs m y) (y m) (get_or fs m 0)
        ∙ ap (λ (s : ℕ). c ⊗ s) (sym (mixed_more O fs m y))

    mixed_zeros : (m : ℕ) → mixed O fs m (λ k. 0) ≡ 0
    mixed_zeros m = mixed_same O fs m (λ k. 0) (λ k. 0 ⊗ 0) (λ k l. sym (zero-mul F 0)) ∙ mixed-mul m 0 (λ k. 0) ∙ zero-mul F (mixed O fs m (λ k. 0))

    -- the coefficients at j, mixed
    abbrev coefficient : ℕ → (ℕ → List ℕ) → ℕ → ℕ
    coefficient m p j = mixed O fs m (λ k. get_or (p k) j 0)

    coefficients_rest : (m : ℕ) (p : ℕ → List ℕ) (n : ℕ) → coefficient m p 0 ∷ listed (coefficient m (λ k. rest (p k))) n ≡ listed (coefficient m p) (suc n)
    coefficients_rest m p n =
        ap (λ (cs : List ℕ). coefficient m p 0 ∷ cs) (listed_same (coefficient m (λ k. rest (p k))) (λ j. coefficient m p (suc j)) n
        (λ j l. mixed_same O fs m (λ k. get_or (rest (p k)) j 0) (λ k. get_or (p k) (suc j) 0) (λ k h. get_d_rest (p k) j)))
        ∙ listed_first (coefficient m p) n

    eval_coefficients : (m : ℕ) (p : ℕ → List ℕ) (n x : ℕ)
        → coefficient m p 0 ⊕ x ⊗ eval O (listed (coefficient m (λ k. rest (p k))) n) x ≡ eval O (listed (coefficient m p) (suc n)) x
    unfolding eval
    eval_coefficients m p n x = ap (λ (cs : List ℕ). eval O cs x) (coefficients_rest m p n)

    mixed-rest : (m : ℕ) (p : ℕ → List ℕ) (x : ℕ) → mixed O fs m (λ k. eval O (p k) x) ≡ coefficient m p 0 ⊕ x ⊗ mixed O fs m (λ k. eval O (rest (p k)) x)
    mixed-rest m p x =
        mixed_same O fs m (λ k. eval O (p k) x) (λ k. get_or (p k) 0 0 ⊕ x ⊗ eval O (rest (p k)) x) (λ k l. eval-rest (p k) x)
        ∙ mixed-add m (λ k. get_or (p k) 0 0) (λ k. x ⊗ eval O (rest (p k)) x)
        ∙ ap (λ (e : ℕ). coefficient m p 0 ⊕ e) (mixed-mul m x (λ k. eval O (rest (p k)) x))

    -- polynomials of one length, mixed coefficient by coefficient, have the mixed values
    pub mixed-eval : (m : ℕ) (p : ℕ → List ℕ) (n x : ℕ) → ((k : ℕ) → k < m → length (p k) ≡ n)
        → mixed O fs m (λ k. eval O (p k) x) ≡ eval O (listed (λ j. mixed O fs m (λ k. get_or (p k) j 0)) n) x
    mixed-eval m p zero x s =
        mixed_same O fs m (λ k. eval O (p k) x) (λ k. 0) (λ k l. eval_none (p k) x (s k l))
        ∙ mixed_zeros m
        ∙ sym (eval_none (listed (coefficient m p) 0) x (length-listed (coefficient m p) 0))
    mixed-eval m p (suc n) x s =
        mixed-rest m p x
        ∙ ap (λ (e : ℕ). coefficient m p 0 ⊕ x ⊗ e) (mixed-eval m (λ k. rest (p k)) n x (λ k l. length_rest (p k) n (s k l)))
        ∙ eval_coefficients m p n x

  -- with the factors of the points, a polynomial's values at them come to its value at the place
  pub mixed_value : (xs p : List ℕ) (x : ℕ) → Points q xs → length p ≤ length xs → Below q p
      → mixed O (factors O xs x) (length xs) (λ k. eval O p (get_or xs k 0)) ≡ eval O p x
  mixed_value xs p x P l b =
      combine_value F xs p x P l b (listed (λ k. eval O p (get_or xs k 0)) (length xs)) (factors O xs x)
      (λ i h. get_d_listed (λ k. eval O p (get_or xs k 0)) (length xs) i h) (λ i h. get_d_map (λ a. factor O xs a x) xs i h)
