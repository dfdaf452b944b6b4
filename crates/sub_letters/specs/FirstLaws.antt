-- What is said first of sub-letters, one after another.
-- Assumes nothing.
use Rattle.std.specs.Prelude.{ℕ, zero, suc, ◌+◌, ◌-◌, ◌<◌, ◌≤◌, ◌≡◌, refl, Result, Ok, Err}
use Rattle.std.proofs.Common.{sym, ◌∙◌, add-one, eq-eqb, ne_eqb}
use native.Mathlib.Omega.{arith}
use Rattle.refusals.specs.Numbers.{code_some}
use Rattle.sub_letters.specs.declared.judging.SubFault.{SubFault}
use Rattle.sub_letters.specs.Judging.{Weighing, only, or_next, first_sub, weighing_of, FoundBy, Answered, FirstBy}

pub said_first : (one two : Weighing) → (one.number ≡ 0 → ⊥) → or_next one two ≡ one
said_first one two other = rw (ne_eqb one.number 0 other)

pub said_next : (one two : Weighing) → one.number ≡ 0 → or_next one two ≡ two
said_next one two e = rw (eq-eqb one.number 0 e)

module _ (rule : ℕ → Weighing) (count : ℕ) where
  -- of `count` sub-letters, the rule gives no number of those before k
  pub record NoneTo (k : ℕ) : Type 0 where
    pub reached : k ≤ count
    pub still : first_sub rule 0 count ≡ first_sub rule k (count - k)

  pub none_yet : NoneTo 0
  none_yet = let all : count - 0 ≡ count = omega arith in record { reached = omega arith; still = rw all }

  module _ (k : ℕ) (before : NoneTo k) where
    pub none_at_all : count ≤ k → first_sub rule 0 count ≡ only 0
    unfolding first_sub
    none_at_all past =
        let none : count - k ≡ 0 = omega arith in
        before.still ∙ rw none

    module _ (within : k < count) (found : Weighing) (is : found ≡ rule k) where
      one_more : count - k ≡ suc (count - (k + 1))
      one_more = omega arith

      pub found_here : (found.number ≡ 0 → ⊥) → first_sub rule 0 count ≡ found
      unfolding first_sub
      found_here other = before.still ∙ rw (one_more, ← is) (said_first found _ other)

      pub none_here : found.number ≡ 0 → NoneTo (k + 1)
      unfolding first_sub
      none_here e =
          record {
            reached = omega arith;
            still = before.still ∙ rw (one_more, ← is, add-one) (said_next found _ e);
          }

  none_to : (k : ℕ) → k ≤ count → ((j : ℕ) → j < k → (rule j).number ≡ 0) → NoneTo k
  none_to zero within none = none_yet
  none_to (suc k) within none =
      rw add-one at (none_here k (none_to k (omega arith) (λ j h. none j (omega arith))) (omega arith) (rule k) refl (none k (omega arith)))

  -- what answers for each sub-letter by the rule gives its first number
  pub first_answered : {answers : ℕ → Result Unit SubFault → Type 0} {r : Result Unit SubFault} → FirstBy answers count r
      → ((k : ℕ) (r : Result Unit SubFault) → answers k r → FoundBy (rule k) r) → weighing_of r ≡ first_sub rule 0 count
  first_answered {answers} {r} first found = step r first.answered
    where
      step : (r : Result Unit SubFault) → Answered answers count r → weighing_of r ≡ first_sub rule 0 count
      step (Ok done) all = sym (none_at_all count (none_to count (omega arith) (λ j h. found j (Ok tt) (all j h))) (omega arith))
      step (Err fault) first =
          let before = none_to first.0 (omega (arith, first.1)) (λ j h. found j (Ok tt) (first.3 j h)) in
          sym (found_here first.0 before first.1 (weighing_of (Err fault)) (found first.0 (Err fault) first.2) (code_some fault.refusal))
