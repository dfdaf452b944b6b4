-- Sums, rows and pieces grow at their end by what a rule gives, one entry a turn.
-- Rules that agree below k have made the same by then.
-- Assumes nothing.
use Rattle.std.specs.Prelude.{ℕ, zero, suc, ◌<◌, ◌≡◌}
use Rattle.std.proofs.Common.{sym, ap₂, ◌∙◌, arith}

module _ {A B : Type 0} (grown : (ℕ → A) → ℕ → B) (turn : B → A → B) where
  pub grown_same : ((f g : ℕ → A) → grown f 0 ≡ grown g 0) → ((f : ℕ → A) (k : ℕ) → grown f (suc k) ≡ turn (grown f k) (f k))
      → (f g : ℕ → A) (k : ℕ) → ((i : ℕ) → i < k → f i ≡ g i) → grown f k ≡ grown g k
  grown_same none more f g zero h = none f g
  grown_same none more f g (suc k) h =
      more f k ∙ ap₂ turn (grown_same none more f g k (λ i l. h i (omega arith))) (h k (omega arith)) ∙ sym (more g k)
