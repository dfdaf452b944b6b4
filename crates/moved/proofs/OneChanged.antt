-- Weighted sums of lists where one list, whichever, is put in the place of another: it can be chosen in exactly one way to give any sums, since no old keeper's
-- factor is 0.
-- Assumes nothing.
use Rattle.std.specs.Prelude.{ℕ, zero, suc, ◌<◌, ◌≡◌, Bool, true, false, cond, eqb, length, get_or}
use Rattle.std.proofs.Math.Path.{refl, sym, ap}
use Rattle.std.proofs.Common.{◌∙◌, ⊎_elim, inl, inr, eq-or-lt_of_le, le_of_suc-le-suc, not-suc-le-zero, eq-eqb, ne_eqb}
use mathlib.Core.List.{List, [], ◌∷◌}
use native.Mathlib.Omega.{arith}
use Rattle.std.proofs.Math.Seq.{ext_get_or}
use Rattle.std.proofs.lemmas.Bool.{eqb-false}
use Rattle.lists.specs.Below.{Below}
use Rattle.lists.specs.Listed.{listed, length-listed, get_d_listed, below_listed}
use Rattle.lists.specs.Map.{get_d_map}
use Rattle.lists.specs.Member.{In, in_get_d}
use Rattle.algebra.specs.Combine.{factors}
use Rattle.algebra.specs.Factor.{factor, factor_lt}
use Rattle.algebra.specs.Field.{Ops, IsField}
use Rattle.algebra.specs.Mixed.{mixed, mixed_same, mixed_more, mixed_lt}
use Rattle.algebra.specs.Points.{Points, points_tail, points_in, points_apart}
use Rattle.algebra.specs.Ratio.{ratio}
use Rattle.algebra.specs.Ring.{ring, zero_lt, zero-mul, mul-zero, mul_comm, mul_cancel, mul_back, add_cancel, sub-add, sub_not_zero}
use Rattle.moved.proofs.CarriedPolynomials.{length-sums, get_d_sums}
use Rattle.moved.specs.Moved.{weighted_sums}
use Rattle.moved.specs.OneChanged.{instead}

-- it has what that list and the others have
pub instead_has : (P : List ℕ → Type 0) (lists : ℕ → List ℕ) (j : ℕ) (list : List ℕ) (k : ℕ) → P list → P (lists k) → P (instead lists j list k)
instead_has P lists j list k p r = either (eqb k j)
  where
    either : (t : Bool) → P (cond t list (lists k))
    either true = p
    either false = r

-- another number in the place of number j
abbrev other : (ℕ → ℕ) → ℕ → ℕ → ℕ → ℕ
other y j v k = cond (eqb k j) v (y k)

get_d_cond : (t : Bool) (xs ys : List ℕ) (i : ℕ) → get_or (cond t xs ys) i 0 ≡ cond t (get_or xs i 0) (get_or ys i 0)
get_d_cond true xs ys i = refl
get_d_cond false xs ys i = refl

module _ {O : Ops} (F : IsField O) where
  infixl 60 ◌⊕◌ ◌⊖◌
  infixl 70 ◌⊗◌
  open O use {q, add as ◌⊕◌, sub as ◌⊖◌, mul as ◌⊗◌, inv}

  product_not_zero : (a b : ℕ) → a < q → b < q → (a ≡ 0 → ⊥) → (b ≡ 0 → ⊥) → a ⊗ b ≡ 0 → ⊥
  product_not_zero a b ha hb na nb e = nb (mul_cancel F a b 0 ha na hb (zero_lt F) (e ∙ sym (mul-zero F a)))

  inverse_not_zero : (a : ℕ) → a < q → (a ≡ 0 → ⊥) → inv a ≡ 0 → ⊥
  inverse_not_zero a ha na e = let z : ◌≡◌ {A = ℕ} 0 1 = cc (F.mul-inv a ha na, mul-zero F a) in omega arith

  -- the factor of a at x, which is none of the points
  factor_not_zero : (bs : List ℕ) (a x : ℕ) → a < q → x < q → ((b : ℕ) → In b bs → b < q) → ((b : ℕ) → In b bs → b ≡ x → ⊥) → factor O bs a x ≡ 0 → ⊥
  unfolding factor
  factor_not_zero [] a x ha hx below past e = omega arith
  factor_not_zero (b ∷ bs) a x ha hx below past e =
      step (eqb a b) refl (factor_not_zero bs a x ha hx (λ c m. below c (inr m)) (λ c m. past c (inr m))) e
    where
      hb : b < q
      hb = below b (inl refl)

      step : (t : Bool) → eqb a b ≡ t → (factor O bs a x ≡ 0 → ⊥) → cond t (factor O bs a x) (ratio O b a x ⊗ factor O bs a x) ≡ 0 → ⊥
      step true same n z = n z
      step false same n z =
          let above = sub_not_zero F x b hx hb (λ s. past b (inl refl) (sym s)) in
          let under = inverse_not_zero (a ⊖ b) (F.sub_lt a b) (sub_not_zero F a b ha hb (eqb-false a b same)) in
          product_not_zero (ratio O b a x) (factor O bs a x) (F.mul_lt (x ⊖ b) (inv (a ⊖ b))) (factor_lt F bs a x)
          (product_not_zero (x ⊖ b) (inv (a ⊖ b)) (F.sub_lt x b) (F.inv_lt (a ⊖ b)) above under) n z

  swap_last : (s d w : ℕ) → s ⊕ d ⊕ w ≡ s ⊕ w ⊕ d
  swap_last s d w = simp (ring, F)

  -- number j counts by its factor, whatever the others are
  mixed-other : (fs : List ℕ) (m : ℕ) (y : ℕ → ℕ) (j v : ℕ) → j < m → mixed O fs m (other y j v) ≡ mixed O fs m (other y j 0) ⊕ v ⊗ get_or fs j 0
  mixed-other fs zero y j v h = absurd (not-suc-le-zero h)
  mixed-other fs (suc m) y j v h = ⊎_elim last (λ l. earlier l (mixed-other fs m y j v l)) (eq-or-lt_of_le (le_of_suc-le-suc h))
    where
      last : j ≡ m → mixed O fs (suc m) (other y j v) ≡ mixed O fs (suc m) (other y j 0) ⊕ v ⊗ get_or fs j 0
      last e =
          let here : eqb m j ≡ true = eq-eqb m j (sym e) in
          let before = mixed_same O fs m (other y j v) (other y j 0) (λ k l. rw (ne_eqb k j (λ s. omega arith))) in
          rw (mixed_more O fs m (other y j v), mixed_more O fs m (other y j 0), here, before, zero-mul F (get_or fs m 0), e)
          (ap (λ (z : ℕ). z ⊕ v ⊗ get_or fs m 0) (sym (F.add-zero (mixed O fs m (other y m 0)) (mixed_lt F fs m (other y m 0)))))

      earlier : j < m → mixed O fs m (other y j v) ≡ mixed O fs m (other y j 0) ⊕ v ⊗ get_or fs j 0
          → mixed O fs (suc m) (other y j v) ≡ mixed O fs (suc m) (other y j 0) ⊕ v ⊗ get_or fs j 0
      earlier l e =
          let past : eqb m j ≡ false = ne_eqb m j (λ s. omega arith) in
          rw (mixed_more O fs m (other y j v), mixed_more O fs m (other y j 0), past, e)
          (swap_last (mixed O fs m (other y j 0)) (v ⊗ get_or fs j 0) (y m ⊗ get_or fs m 0))

  module _ (froms : List ℕ) (P : Points q (0 ∷ froms)) (lists : ℕ → List ℕ) (j : ℕ) (l : j < length froms) (count : ℕ) where
    -- the factor of old keeper number j
    abbrev weight : ℕ
    weight = factor O froms (get_or froms j 0) 0

    weight_lt : weight < q
    weight_lt = factor_lt F froms (get_or froms j 0) 0

    weight_not_zero : weight ≡ 0 → ⊥
    weight_not_zero e =
        let Q = points_tail P in
        factor_not_zero froms (get_or froms j 0) 0 (points_in Q (get_or froms j 0) (in_get_d froms j l)) (zero_lt F) (points_in Q) (points_apart P) e

    -- what the others come to at place i
    abbrev rest : ℕ → ℕ
    rest i = mixed O (factors O froms 0) (length froms) (other (λ k. get_or (lists k) i 0) j 0)

    sums-instead : (list : List ℕ) (i : ℕ) → i < count → get_or (weighted_sums O froms (instead lists j list) count) i 0 ≡ rest i ⊕ get_or list i 0 ⊗ weight
    sums-instead list i h =
        get_d_sums O froms (instead lists j list) count i h
        ∙ mixed_same O (factors O froms 0) (length froms) _ (other (λ k. get_or (lists k) i 0) j (get_or list i 0)) (λ k g. get_d_cond (eqb k j) list (lists k) i)
        ∙ mixed-other (factors O froms 0) (length froms) (λ k. get_or (lists k) i 0) j (get_or list i 0) l
        ∙ ap (λ (f : ℕ). rest i ⊕ get_or list i 0 ⊗ f) (get_d_map (λ a. factor O froms a 0) froms j l)

    -- the list that gives these sums
    pub giving : List ℕ → List ℕ
    giving sums = listed (λ i. (get_or sums i 0 ⊖ rest i) ⊗ inv weight) count

    pub length_giving : (sums : List ℕ) → length (giving sums) ≡ count
    unfolding giving
    length_giving sums = length-listed _ count

    pub below_giving : (sums : List ℕ) → Below q (giving sums)
    unfolding giving
    below_giving sums = below_listed q _ count (λ i h. F.mul_lt (get_or sums i 0 ⊖ rest i) (inv weight))

    solved : (r z : ℕ) → r < q → z ⊕ (r ⊖ z) ⊗ inv weight ⊗ weight ≡ r
    solved r z h =
        ap (λ (e : ℕ). z ⊕ e) (mul_comm F ((r ⊖ z) ⊗ inv weight) weight ∙ mul_back F weight (r ⊖ z) weight_lt weight_not_zero (F.sub_lt r z))
        ∙ sub-add F r z h

    pub giving_gives : (sums : List ℕ) → length sums ≡ count → Below q sums → weighted_sums O froms (instead lists j (giving sums)) count ≡ sums
    unfolding giving
    giving_gives sums s b =
        let many = length-sums O froms (instead lists j (giving sums)) count in
        ext_get_or 0 (weighted_sums O froms (instead lists j (giving sums)) count) sums (many ∙ sym s)
        (λ i h. let within : i < count = omega arith in
        sums-instead (giving sums) i within
        ∙ ap (λ (v : ℕ). rest i ⊕ v ⊗ weight) (get_d_listed (λ i. (get_or sums i 0 ⊖ rest i) ⊗ inv weight) count i within)
        ∙ solved (get_or sums i 0) (rest i) (b i (omega arith)))

    one_value : (z v w : ℕ) → v < q → w < q → z ⊕ v ⊗ weight ≡ z ⊕ w ⊗ weight → v ≡ w
    one_value z v w hv hw e =
        mul_cancel F weight v w weight_lt weight_not_zero hv hw
        (mul_comm F weight v ∙ add_cancel F z (v ⊗ weight) (w ⊗ weight) (F.mul_lt v weight) (F.mul_lt w weight) e ∙ mul_comm F w weight)

    -- two lists that give the same sums are one
    pub giving_only : (one two : List ℕ) → length one ≡ count → length two ≡ count → Below q one → Below q two
        → weighted_sums O froms (instead lists j one) count ≡ weighted_sums O froms (instead lists j two) count → one ≡ two
    giving_only one two s s' b b' e =
        ext_get_or 0 one two (s ∙ sym s')
        (λ i h. let within : i < count = omega arith in
        one_value (rest i) (get_or one i 0) (get_or two i 0) (b i h) (b' i (omega arith))
        (sym (sums-instead one i within) ∙ ap (λ (ws : List ℕ). get_or ws i 0) e ∙ sums-instead two i within))
