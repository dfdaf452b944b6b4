-- Two lists compared from the front, with every number looked at: what the numbers passed have told.
-- Assumes nothing.
use Rattle.std.specs.Prelude.{ℕ, ◌+◌, ◌<◌, ◌≤◌, ◌≡◌, refl, Bool, true, false, ◌&&◌, List, eqb, length, get_or}
use Rattle.std.proofs.Common.{sym, ap, ◌∙◌, not-suc-le-zero, arith, below_more, ⊎_elim, eq-eqb, ne_eqb}
use Rattle.std.proofs.Math.Bool.{and-true, and-false}
use Rattle.std.proofs.lemmas.Bool.{false≢true, cases_eq}
use Rattle.lists.specs.SameBytes.{same_bytes, apart_not_same, alike_same}

-- the first i are the same until two of them are not
pub record Passed (xs ys : List ℕ) (i : ℕ) (same : Bool) : Type 0 where
  pub within : i ≤ length xs
  pub alike : same ≡ true → (k : ℕ) → k < i → get_or xs k 0 ≡ get_or ys k 0
  pub apart : same ≡ false → xs ≡ ys → ⊥

pub passed_none : {xs ys : List ℕ} → Passed xs ys 0 true
passed_none = record {
  within = omega arith;
  alike = λ t k h. absurd (not-suc-le-zero h);
  apart = λ t. absurd (false≢true (sym t));
}

module _ {xs ys : List ℕ} {i : ℕ} where
  pub passed_alike : {same next : Bool} → Passed xs ys i same → i < length xs → get_or xs i 0 ≡ get_or ys i 0 → next ≡ same → Passed xs ys (i + 1) next
  passed_alike p l e n = record {
    within = omega arith;
    alike = λ t. below_more _ _ (p.alike (sym n ∙ t)) e;
    apart = λ t. p.apart (sym n ∙ t);
  }

  pub passed_apart : {same next : Bool} → Passed xs ys i same → i < length xs → (get_or xs i 0 ≡ get_or ys i 0 → ⊥) → next ≡ false → Passed xs ys (i + 1) next
  passed_apart p l d n = record {
    within = omega arith;
    alike = λ t. absurd (false≢true (sym n ∙ t));
    apart = λ t e. d (ap (λ (ws : List ℕ). get_or ws i 0) e);
  }

  -- by `&=`, whether the two there are the same or not
  pub passed_more : {same : Bool} → Passed xs ys i same → i < length xs → Passed xs ys (i + 1) (same && eqb (get_or xs i 0) (get_or ys i 0))
  passed_more {same} p l =
      ⊎_elim (λ e. passed_alike p l e (rw (eq-eqb _ _ e, and-true)))
      (λ d. passed_apart p l d (rw (ne_eqb _ _ d, and-false)))
      (cases_eq (get_or xs i 0) (get_or ys i 0))

  pub passed_all : (same : Bool) → Passed xs ys i same → length xs ≤ i → length xs ≡ length ys → same ≡ same_bytes xs ys
  passed_all true p l e = alike_same xs ys e (λ k h. p.alike refl k (omega arith))
  passed_all false p l e = apart_not_same xs ys (p.apart refl)
