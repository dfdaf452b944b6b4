-- What follows from the laws of a field before any polynomial: zero, cancelling, and a set of rules that brings sums of products to one form.
-- Assumes nothing.
use Rattle.std.specs.Prelude.{ℕ, ◌<◌, ◌≡◌}
use Rattle.std.proofs.Common.{sym, ap, ◌∙◌, arith}
use Rattle.algebra.specs.Field.{Ops, IsField}

module _ {O : Ops} (F : IsField O) where
  infixl 60 ◌⊕◌ ◌⊖◌
  infixl 70 ◌⊗◌
  open O use {q, add as ◌⊕◌, sub as ◌⊖◌, mul as ◌⊗◌, inv}

  pub minus : (a b : ℕ) → a ⊖ b ≡ a ⊕ F.minus_one ⊗ b
  minus a b = F.sub_as_add a b

  pub add_comm : (a b : ℕ) → a ⊕ b ≡ b ⊕ a
  add_comm a b = F.add_comm a b

  pub add_assoc : (a b c : ℕ) → a ⊕ b ⊕ c ≡ a ⊕ (b ⊕ c)
  add_assoc a b c = F.add_assoc a b c

  pub add_left_comm : (a b c : ℕ) → a ⊕ (b ⊕ c) ≡ b ⊕ (a ⊕ c)
  add_left_comm a b c = simp (← add_assoc) (rw (add_comm a b))

  pub mul_comm : (a b : ℕ) → a ⊗ b ≡ b ⊗ a
  mul_comm a b = F.mul_comm a b

  pub mul_assoc : (a b c : ℕ) → a ⊗ b ⊗ c ≡ a ⊗ (b ⊗ c)
  mul_assoc a b c = F.mul_assoc a b c

  pub mul_left_comm : (a b c : ℕ) → a ⊗ (b ⊗ c) ≡ b ⊗ (a ⊗ c)
  mul_left_comm a b c = simp (← mul_assoc) (rw (mul_comm a b))

  pub mul-add : (a b c : ℕ) → a ⊗ (b ⊕ c) ≡ a ⊗ b ⊕ a ⊗ c
  mul-add a b c = F.mul-add a b c

  pub add-mul : (a b c : ℕ) → (a ⊕ b) ⊗ c ≡ a ⊗ c ⊕ b ⊗ c
  add-mul a b c = simp (mul_comm, mul-add)

  -- Outside this block the field's laws are listed with it: `simp (ring, F)`.
  pub ruleset ring = (minus, add_comm, add_assoc, add_left_comm, mul_comm, mul_assoc, mul_left_comm, mul-add, add-mul)

  pub zero_lt : 0 < q
  zero_lt = omega (arith, F.one_lt)

  pub zero-add : (a : ℕ) → a < q → 0 ⊕ a ≡ a
  zero-add a h = add_comm 0 a ∙ F.add-zero a h

  pub one_mul : (a : ℕ) → a < q → 1 ⊗ a ≡ a
  one_mul a h = mul_comm 1 a ∙ F.mul_one a h

  add_sub_assoc : (a b c : ℕ) → a ⊕ b ⊖ c ≡ a ⊕ (b ⊖ c)
  add_sub_assoc a b c = simp ring

  pub add-sub : (a b : ℕ) → a < q → a ⊕ b ⊖ b ≡ a
  add-sub a b h = add_sub_assoc a b b ∙ rw F.sub_self (F.add-zero a h)

  add-sub_swap : (a b : ℕ) → b ⊕ (a ⊖ b) ≡ a ⊕ b ⊖ b
  add-sub_swap a b = simp ring

  pub sub-add : (a b : ℕ) → a < q → b ⊕ (a ⊖ b) ≡ a
  sub-add a b h = add-sub_swap a b ∙ add-sub a b h

  pub mul-zero : (a : ℕ) → a ⊗ 0 ≡ 0
  mul-zero a =
      let z : a ⊗ 0 ⊕ a ⊗ 0 ≡ a ⊗ 0 = sym (mul-add a 0 0) ∙ rw (F.add-zero 0 zero_lt) in
      sym (add-sub (a ⊗ 0) (a ⊗ 0) (F.mul_lt a 0)) ∙ rw (z, F.sub_self)

  pub zero-mul : (a : ℕ) → 0 ⊗ a ≡ 0
  zero-mul a = mul_comm 0 a ∙ mul-zero a

  sub-zero_eq : (a b : ℕ) → a < q → b < q → a ⊖ b ≡ 0 → a ≡ b
  sub-zero_eq a b ha hb e = sym (sub-add a b ha) ∙ ap (λ (d : ℕ). b ⊕ d) e ∙ F.add-zero b hb

  pub sub_not_zero : (a b : ℕ) → a < q → b < q → (a ≡ b → ⊥) → a ⊖ b ≡ 0 → ⊥
  sub_not_zero a b ha hb n e = n (sub-zero_eq a b ha hb e)

  pub add_cancel : (a b c : ℕ) → b < q → c < q → a ⊕ b ≡ a ⊕ c → b ≡ c
  add_cancel a b c hb hc e = sym (add-sub b a hb) ∙ rw (add_comm b a, e, add_comm a c) (add-sub c a hc)

  -- dividing by a number that is not zero, and multiplying by it again
  pub mul_back : (a b : ℕ) → a < q → (a ≡ 0 → ⊥) → b < q → a ⊗ (b ⊗ inv a) ≡ b
  mul_back a b ha na hb = mul_left_comm a b (inv a) ∙ ap (λ (d : ℕ). b ⊗ d) (F.mul-inv a ha na) ∙ F.mul_one b hb

  pub mul_cancel : (a b c : ℕ) → a < q → (a ≡ 0 → ⊥) → b < q → c < q → a ⊗ b ≡ a ⊗ c → b ≡ c
  mul_cancel a b c ha na hb hc e = sym (mul_back a b ha na hb) ∙ rw (← mul_assoc a b (inv a), e, mul_assoc a c (inv a)) (mul_back a c ha na hc)
