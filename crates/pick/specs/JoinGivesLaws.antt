-- What the number of a group's join says of the group, where its stamp and length are lawful: 6 that it is not large, any other that it is; and that
-- there is only one.
-- Assumes nothing.
use Rattle.std.specs.Prelude.{ℕ, ◌*◌, ◌<◌, ◌≡◌, refl, List, ◌⊎◌, length, replicate}
use Rattle.std.proofs.Common.{sym, ap, ◌∙◌, inl, inr, arith}
use Rattle.std.proofs.lemmas.List.{length-replicate}
use Rattle.algebra.specs.Field.{Ops, IsField}
use Rattle.header.specs.declared.told.Told.{Told}
use Rattle.header.specs.TermsLaws.{TermsFacts}
use Rattle.agree.specs.ReachesLaws.{reaches_many}
use Rattle.join.specs.Join.{Joined}
use Rattle.join.specs.Join.{join_refusal, JoinDone, refused, judged, few, apart, wide, joined}
use Rattle.join.specs.DoneLaws.{done_any_room}
use Rattle.join.specs.RefusalLaws.{facts_accepted}
use Rattle.pick.specs.Pick.{Large, JoinGives}

pub accepted : (told : Told) (tray : List ℕ) (stamp l : ℕ) → TermsFacts told stamp l → length tray ≡ 2048 * told.order.n → join_refusal told stamp l tray (replicate l 0) ≡ 0
accepted told tray stamp l terms slots =
    facts_accepted told stamp l tray (replicate l 0) (record { of_terms = terms; tray_lent = slots; room_lent = length-replicate l 0 })

module _ {O : Ops} {told : Told} {tray : List ℕ} {stamp l : ℕ} (terms : TermsFacts told stamp l) (slots : length tray ≡ 2048 * told.order.n) where
  many_done : {result : Joined} {left : List ℕ} → JoinDone O told stamp l tray (replicate l 0) result left → (result.number ≡ 6 → ⊥) → Large told tray stamp l
  many_done (refused h) other = absurd (h (accepted told tray stamp l terms slots))
  many_done (judged e (few h)) other = absurd (other refl)
  many_done (judged e (apart h none)) other = h
  many_done (judged e (wide ps R b)) other = reaches_many R
  many_done (judged e (joined ps R b)) other = reaches_many R

  few_done : {result : Joined} {left : List ℕ} → JoinDone O told stamp l tray (replicate l 0) result left → result.number ≡ 6 → Large told tray stamp l → ⊥
  few_done (refused h) z large = h (accepted told tray stamp l terms slots)
  few_done (judged e (few h)) z large = omega arith
  few_done (judged e (apart h none)) z large = omega arith
  few_done (judged e (wide ps R b)) z large = omega arith
  few_done (judged e (joined ps R b)) z large = omega arith

  pub gives_large : {number : ℕ} → JoinGives O told tray stamp l number → (number ≡ 6 → ⊥) → Large told tray stamp l
  gives_large J other = many_done J.done (λ z. other (sym J.numbered ∙ z))

  pub gives_few : JoinGives O told tray stamp l 6 → Large told tray stamp l → ⊥
  gives_few J large = few_done J.done J.numbered large

  number_done : {result : Joined} {left : List ℕ} → JoinDone O told stamp l tray (replicate l 0) result left → Large told tray stamp l → (result.number ≡ 0 → ⊥)
      → (result.number ≡ 7) ⊎ (result.number ≡ 8)
  number_done (refused h) large other = absurd (h (accepted told tray stamp l terms slots))
  number_done (judged e (few h)) large other = absurd (omega arith)
  number_done (judged e (apart h none)) large other = inl refl
  number_done (judged e (wide ps R b)) large other = inr refl
  number_done (judged e (joined ps R b)) large other = absurd (other refl)

  -- a large group that does not join has 7 or 8
  pub gives_number : {number : ℕ} → JoinGives O told tray stamp l number → Large told tray stamp l → (number ≡ 0 → ⊥) → (number ≡ 7) ⊎ (number ≡ 8)
  gives_number J large other = rw J.numbered at (number_done J.done large) other

pub gives_same : {O : Ops} → IsField O → {told : Told} {tray : List ℕ} {stamp l number number' : ℕ} → told.order.n < O.q → JoinGives O told tray stamp l number
    → JoinGives O told tray stamp l number' → number ≡ number'
gives_same F apart-keepers J J' = sym J.numbered ∙ (ap (λ (r : Joined). r.number) (done_any_room F (λ e. apart-keepers) refl J.done J'.done) ∙ J'.numbered)
