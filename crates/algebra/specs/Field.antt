-- A field on the numbers below q: its operations as data, its laws apart from them.
-- The operations reduce their own arguments, so most laws hold of every number, and a rewriter can use them.
-- Assumes nothing.
use Rattle.std.specs.Prelude.{ℕ, ◌<◌, ◌≡◌}

-- "Field words are whole numbers 0..256, modulo the prime 257": q is 257 there, and a parameter here.
pub record Ops : Type 0 where
  pub q : ℕ
  pub add : ℕ → ℕ → ℕ
  pub sub : ℕ → ℕ → ℕ
  pub mul : ℕ → ℕ → ℕ
  pub inv : ℕ → ℕ

module _ (O : Ops) where
  infixl 60 ◌⊕◌ ◌⊖◌
  infixl 70 ◌⊗◌
  open O use {q, add as ◌⊕◌, sub as ◌⊖◌, mul as ◌⊗◌, inv}

  -- the laws of a field: results lie below q, sums and products are as one expects, and every number but 0 has an inverse
  pub record IsField : Type 0 where
    pub minus_one : ℕ
    pub one_lt : 1 < q
    pub add_lt : (a b : ℕ) → a ⊕ b < q
    pub sub_lt : (a b : ℕ) → a ⊖ b < q
    pub mul_lt : (a b : ℕ) → a ⊗ b < q
    pub inv_lt : (a : ℕ) → inv a < q
    pub add_comm : (a b : ℕ) → a ⊕ b ≡ b ⊕ a
    pub add_assoc : (a b c : ℕ) → a ⊕ b ⊕ c ≡ a ⊕ (b ⊕ c)
    pub add-zero : (a : ℕ) → a < q → a ⊕ 0 ≡ a
    pub mul_comm : (a b : ℕ) → a ⊗ b ≡ b ⊗ a
    pub mul_assoc : (a b c : ℕ) → a ⊗ b ⊗ c ≡ a ⊗ (b ⊗ c)
    pub mul_one : (a : ℕ) → a < q → a ⊗ 1 ≡ a
    pub mul-add : (a b c : ℕ) → a ⊗ (b ⊕ c) ≡ a ⊗ b ⊕ a ⊗ c
    pub sub_as_add : (a b : ℕ) → a ⊖ b ≡ a ⊕ minus_one ⊗ b
    pub sub_self : (a : ℕ) → a ⊖ a ≡ 0
    pub mul-inv : (a : ℕ) → a < q → (a ≡ 0 → ⊥) → a ⊗ inv a ≡ 1
