-- Each reason has a number of its own: so the number that a caller in C is told says which reason it was, or that there was none.
-- Assumes nothing.
use Rattle.std.specs.Prelude.{ℕ, ◌≡◌, refl, cond, Result, Ok, Err, eqb}
use Rattle.std.proofs.Common.{sym, ap, ◌∙◌}
use Rattle.refusals.specs.declared.Refusal.{Refusal}
use Rattle.refusals.specs.declared.Refusal.TheVariants.{NotLawful, Length, Stamp, Room, Word, TooFew, NoPolynomials, NoSecret, LargeWord, Check, Mark, Header, Tail, Older, OtherBytes, NotOurs, NothingHeld, ManyDifferences, OldKeepers, StampNotAbove}
use Rattle.refusals.specs.Numbers.{code, code_of, code_some}

-- the reason that has a number; the last one where none has it
unfoldable reason : ℕ → Refusal
reason number =
    cond (eqb number 1) NotLawful
    (cond (eqb number 2) Length
    (cond (eqb number 3) Stamp
    (cond (eqb number 4) Room
    (cond (eqb number 5) Word
    (cond (eqb number 6) TooFew
    (cond (eqb number 7) NoPolynomials
    (cond (eqb number 8) NoSecret
    (cond (eqb number 9) LargeWord
    (cond (eqb number 10) Check
    (cond (eqb number 11) Mark
    (cond (eqb number 12) Header
    (cond (eqb number 13) Tail
    (cond (eqb number 14) Older
    (cond (eqb number 15) OtherBytes
    (cond (eqb number 16) NotOurs
    (cond (eqb number 17) NothingHeld
    (cond (eqb number 18) ManyDifferences
    (cond (eqb number 19) OldKeepers StampNotAbove))))))))))))))))))

-- it is the one whose number it is
reason_of_code : (refusal : Refusal) → reason (code refusal) ≡ refusal
unfolding reason
reason_of_code NotLawful = refl
reason_of_code Length = refl
reason_of_code Stamp = refl
reason_of_code Room = refl
reason_of_code Word = refl
reason_of_code TooFew = refl
reason_of_code NoPolynomials = refl
reason_of_code NoSecret = refl
reason_of_code LargeWord = refl
reason_of_code Check = refl
reason_of_code Mark = refl
reason_of_code Header = refl
reason_of_code Tail = refl
reason_of_code Older = refl
reason_of_code OtherBytes = refl
reason_of_code NotOurs = refl
reason_of_code NothingHeld = refl
reason_of_code ManyDifferences = refl
reason_of_code OldKeepers = refl
reason_of_code StampNotAbove = refl

-- two reasons of one number are one
pub code_same : (one other : Refusal) → code one ≡ code other → one ≡ other
code_same one other same = sym (reason_of_code one) ∙ (ap reason same ∙ reason_of_code other)

-- two outcomes of one number are one: both done, with the same, or both refused for the same reason
module _ {A : Type 0} (done_same : (one other : A) → one ≡ other) where
  pub outcome_same : (one other : Result A Refusal) → code_of one ≡ code_of other → one ≡ other
  outcome_same (Ok done) (Ok done') same = ap Ok (done_same done done')
  outcome_same (Ok done) (Err refusal) same = absurd (code_some refusal (sym same))
  outcome_same (Err refusal) (Ok done) same = absurd (code_some refusal same)
  outcome_same (Err refusal) (Err refusal') same = ap Err (code_same refusal refusal' same)

-- where there is nothing to hand back
pub code_of_same : (one other : Result Unit Refusal) → code_of one ≡ code_of other → one ≡ other
code_of_same = outcome_same (λ one other. refl)
