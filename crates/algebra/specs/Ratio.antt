-- The ratio (x - b) / (a - b), which is 1 at a and 0 at b, and what two of them and three of them come to.
-- Assumes nothing.
use Rattle.std.specs.Prelude.{ℕ, ◌<◌, ◌≡◌}
use Rattle.std.proofs.Common.{sym, ap, ◌∙◌}
use Rattle.algebra.specs.Field.{Ops, IsField}
use Rattle.algebra.specs.Fraction.{mul_four}
use Rattle.algebra.specs.Ring.{ring, minus, add_comm, zero-add, mul-zero, zero-mul, mul_back, sub_not_zero}

abbrev pub ratio : Ops → ℕ → ℕ → ℕ → ℕ
ratio O b a x = O.mul (O.sub x b) (O.inv (O.sub a b))

module _ {O : Ops} (F : IsField O) where
  infixl 60 ◌⊕◌ ◌⊖◌
  infixl 70 ◌⊗◌
  open O use {q, add as ◌⊕◌, sub as ◌⊖◌, mul as ◌⊗◌, inv}

  through : (x a c : ℕ) → x ⊖ a ⊕ (a ⊖ c) ≡ x ⊕ (a ⊖ a ⊕ F.minus_one ⊗ c)
  through x a c = simp (ring, F)

  sub_through : (x a c : ℕ) → x ⊖ a ⊕ (a ⊖ c) ≡ x ⊖ c
  sub_through x a c = cc (through x a c, F.sub_self a, zero-add F (F.minus_one ⊗ c) (F.mul_lt F.minus_one c), minus F x c)

  spread : (d d' k k' : ℕ) → (d ⊕ d') ⊗ (k ⊗ k') ≡ d ⊗ (k' ⊗ k) ⊕ d' ⊗ (k ⊗ k')
  spread d d' k k' = simp (ring, F)

  -- opposite numbers have opposite inverses
  inverses : (d d' : ℕ) → d < q → d' < q → (d ≡ 0 → ⊥) → (d' ≡ 0 → ⊥) → d ⊕ d' ≡ 0 → inv d ⊕ inv d' ≡ 0
  inverses d d' h h' n n' e =
      cc (add_comm F (inv d) (inv d'), mul_back F d (inv d') h n (F.inv_lt d'), mul_back F d' (inv d) h' n' (F.inv_lt d), spread d d' (inv d) (inv d'), zero-mul F (inv d ⊗ inv d'))

  collect : (r d k k' : ℕ) → (r ⊕ d) ⊗ k ⊕ r ⊗ k' ≡ r ⊗ (k ⊕ k') ⊕ d ⊗ k
  collect r d k k' = simp (ring, F)

  pub ratio_two : (a c x : ℕ) → a < q → c < q → (a ≡ c → ⊥) → ratio O c a x ⊕ ratio O a c x ≡ 1
  ratio_two a c x ha hc n =
      let na = sub_not_zero F a c ha hc n in
      let nc = sub_not_zero F c a hc ha (λ e. n (sym e)) in
      let e = inverses (a ⊖ c) (c ⊖ a) (F.sub_lt a c) (F.sub_lt c a) na nc (sub_through a c a ∙ F.sub_self a) in
      cc (sub_through x a c, collect (x ⊖ a) (a ⊖ c) (inv (a ⊖ c)) (inv (c ⊖ a)), F.mul-inv (a ⊖ c) (F.sub_lt a c) na, mul-zero F (x ⊖ a), zero-add F 1 F.one_lt)

  expand : (d e k k' u v : ℕ) → u ⊗ v ⊗ (e ⊗ k ⊕ d ⊗ k') ≡ k ⊗ u ⊗ (e ⊗ v) ⊕ k' ⊗ v ⊗ (d ⊗ u)
  expand d e k k' u v = simp (ring, F)

  fractions : (d e k k' u v : ℕ) → d ⊗ u ≡ 1 → e ⊗ v ≡ 1 → e ⊗ k ⊕ d ⊗ k' ≡ 1 → u ⊗ v ≡ k ⊗ u ⊕ k' ⊗ v
  fractions d e k k' u v hd he hs =
      cc (F.mul_one (u ⊗ v) (F.mul_lt u v), expand d e k k' u v, F.mul_one (k ⊗ u) (F.mul_lt k u), F.mul_one (k' ⊗ v) (F.mul_lt k' v))

  right : (r s k k' u v : ℕ) → s ⊗ k ⊗ (r ⊗ u) ⊕ r ⊗ k' ⊗ (s ⊗ v) ≡ r ⊗ s ⊗ (k ⊗ u ⊕ k' ⊗ v)
  right r s k k' u v = simp (ring, F)

  -- b's ratios against a and against c, multiplied, by those of a and c against one another
  pub ratio_three : (a b c x : ℕ) → a < q → b < q → c < q → (a ≡ c → ⊥) → (b ≡ a → ⊥) → (b ≡ c → ⊥)
      → ratio O a b x ⊗ ratio O c b x ≡ ratio O c a x ⊗ ratio O a b x ⊕ ratio O a c x ⊗ ratio O c b x
  ratio_three a b c x ha hb hc nac nba nbc =
      let k = inv (a ⊖ c) in
      let k' = inv (c ⊖ a) in
      let u = inv (b ⊖ a) in
      let v = inv (b ⊖ c) in
      let e = fractions (b ⊖ a) (b ⊖ c) k k' u v (F.mul-inv (b ⊖ a) (F.sub_lt b a) (sub_not_zero F b a hb ha nba))
      (F.mul-inv (b ⊖ c) (F.sub_lt b c) (sub_not_zero F b c hb hc nbc)) (ratio_two a c b ha hc nac) in
      mul_four F (x ⊖ a) u (x ⊖ c) v ∙ ap (λ (z : ℕ). (x ⊖ a) ⊗ (x ⊖ c) ⊗ z) e ∙ sym (right (x ⊖ a) (x ⊖ c) k k' u v)
