-- Fractions multiplied: numerators by numerators, denominators by denominators.
-- Assumes nothing.
use Rattle.std.specs.Prelude.{ℕ, ◌<◌, ◌≡◌}
use Rattle.std.proofs.Common.{sym, ◌∙◌}
use Rattle.algebra.specs.Field.{Ops, IsField}
use Rattle.algebra.specs.Ring.{ring, zero_lt, mul-zero, mul_cancel}

module _ {O : Ops} (F : IsField O) where
  infixl 70 ◌⊗◌
  open O use {q, mul as ◌⊗◌, inv}

  -- four factors, taken crosswise
  pub mul_four : (a b c d : ℕ) → a ⊗ b ⊗ (c ⊗ d) ≡ a ⊗ c ⊗ (b ⊗ d)
  mul_four a b c d = simp (ring, F)

  mul_not_zero : (a b : ℕ) → a < q → b < q → (a ≡ 0 → ⊥) → (b ≡ 0 → ⊥) → a ⊗ b ≡ 0 → ⊥
  mul_not_zero a b ha hb na nb e = nb (mul_cancel F a b 0 ha na hb (zero_lt F) (e ∙ sym (mul-zero F a)))

  -- the inverse of a product
  pub inv-mul : (a b : ℕ) → a < q → b < q → (a ≡ 0 → ⊥) → (b ≡ 0 → ⊥) → inv (a ⊗ b) ≡ inv a ⊗ inv b
  inv-mul a b ha hb na nb =
      let product = F.mul-inv (a ⊗ b) (F.mul_lt a b) (mul_not_zero a b ha hb na nb) in
      let apart : a ⊗ b ⊗ (inv a ⊗ inv b) ≡ 1
      = mul_four a b (inv a) (inv b) ∙ rw (F.mul-inv a ha na, F.mul-inv b hb nb) (F.mul_one 1 F.one_lt) in
      mul_cancel F (a ⊗ b) (inv (a ⊗ b)) (inv a ⊗ inv b) (F.mul_lt a b) (mul_not_zero a b ha hb na nb) (F.inv_lt (a ⊗ b)) (F.mul_lt (inv a) (inv b)) (product ∙ sym apart)
