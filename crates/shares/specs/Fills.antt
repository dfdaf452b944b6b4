-- A call that is lent something to fill: the number it answers, and what it leaves there.
-- Assumes nothing.
use Rattle.std.specs.Prelude.{ℕ, ◌≡◌, cond, List, eqb}
use Rattle.std.proofs.Common.{sym, ◌∙◌, eq-eqb, ne_eqb}

-- it answers the right number; where that is 0, what it was lent is full, and else it is as it was
pub record Fills (right : ℕ) (full old : List ℕ) (number : ℕ) (left : List ℕ) : Type 0 where
  pub answers : number ≡ right
  pub leaves : left ≡ cond (eqb right 0) full old

-- what such a call does once its number is known: 0, and it fills; or another, and it leaves
module _ {right number : ℕ} (answers : number ≡ right) {full old : List ℕ} where
  pub fills : {left : List ℕ} → number ≡ 0 → left ≡ full → Fills right full old number left
  fills zero filled = record { answers = answers; leaves = rw (eq-eqb _ 0 (sym answers ∙ zero)) filled }

  pub refuses : (number ≡ 0 → ⊥) → Fills right full old number old
  refuses other = record { answers = answers; leaves = rw (ne_eqb _ 0 (λ e. other (answers ∙ e))) }

module _ {right number : ℕ} {full old left : List ℕ} (D : Fills right full old number left) where
  pub filled : right ≡ 0 → left ≡ full
  filled e = D.leaves ∙ rw e

  pub unchanged : (number ≡ 0 → ⊥) → left ≡ old
  unchanged wrong = D.leaves ∙ rw (ne_eqb _ 0 (λ e. wrong (D.answers ∙ e)))

  pub fills_same : {number' : ℕ} {left' : List ℕ} → Fills right full old number' left' → (number ≡ number') × (left ≡ left')
  fills_same D' = (D.answers ∙ sym D'.answers, D.leaves ∙ sym D'.leaves)
