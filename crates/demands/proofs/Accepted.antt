-- When the join gives a secret.
-- Assumes nothing.
use Rattle.std.specs.Prelude.{ℕ, ◌≡◌, cond, List, ◌⊎◌, ◌↔◌}
use Rattle.std.proofs.Common.{sym, ap, ◌∙◌, inl, inr, arith}
use Rattle.algebra.specs.Field.{Ops}
use Rattle.block.specs.Check.{all_at_most}
use Rattle.header.specs.declared.told.Told.{Told}
use Rattle.header.specs.Passing.{passing}
use Rattle.tray.specs.Tray.{usable, word_of}
use Rattle.agree.specs.Agreement.{Reaches, constants}
use Rattle.cut.specs.LetterField.{LetterField, keepers_apart}
use Rattle.join.specs.Join.{Joined}
use Rattle.join.specs.Join.{join_refusal, JoinDone, refused, judged, few, apart, wide, joined}
use Rattle.join.specs.OutcomeLaws.{reaches_outcome}
use Rattle.join.specs.RefusalLaws.{refusal_most}
use Rattle.demands.proofs.JoinAnswers.{not_refused_order}
use Rattle.demands.specs.Accepted.{SecretAgreed, Tells, Given}

-- what is told of with 0 or 8 reaches need, and 8 says that a constant of it is 256
pub told_reached : {O : Ops} {told : Told} {stamp l : ℕ} {tray room left : List ℕ} {result : Joined} → JoinDone O told stamp l tray room result left
    → (result.number ≡ 0) ⊎ (result.number ≡ 8)
    → (ps : List (List ℕ)) × Reaches O told.order.t told.order.f told.order.n (usable told stamp l tray) (word_of tray l) l ps
    × Tells O told stamp l tray ps (cond (all_at_most 255 (constants ps)) 0 8) (cond (all_at_most 255 (constants ps)) (constants ps) room) result left
told_reached (refused h) (inl z) = absurd (h z)
told_reached {O} {told} {stamp} {l} {tray} {room} (refused h) (inr z) = absurd (omega (arith, refusal_most told stamp l tray room))
told_reached (judged e (few h)) (inl z) = absurd (omega arith)
told_reached (judged e (few h)) (inr z) = absurd (omega arith)
told_reached (judged e (apart h none)) (inl z) = absurd (omega arith)
told_reached (judged e (apart h none)) (inr z) = absurd (omega arith)
told_reached (judged e (wide ps R b)) z = (ps, R, record { answers = rw b; leaves = rw b })
told_reached (judged e (joined ps R b)) z = (ps, R, record { answers = rw b; leaves = rw b })

-- a secret that is given was agreed on
pub zero_agreed : {O : Ops} {told : Told} {stamp l : ℕ} {tray room left : List ℕ} {result : Joined} → JoinDone O told stamp l tray room result left
    → result.number ≡ 0 → (ps : List (List ℕ)) × SecretAgreed O told stamp l tray ps × Given O told stamp l tray ps result left
zero_agreed D z =
    let (ps, R, g) = told_reached D (inl z) in
    let bytes = (passing (all_at_most 255 (constants ps)) 0 7 (sym (ap (λ (r : Joined). r.number) g.answers) ∙ z)).0 in
    (ps, record { reaches = R; bytes = bytes }, rw bytes at g)

-- polynomials that reach need are told of: given where their constants are bytes; where one is 256, with 8, and the room is left
pub reached_told : {O : Ops} → LetterField O → {told : Told} {stamp l : ℕ} {tray room left : List ℕ} {result : Joined}
    → JoinDone O told stamp l tray room result left → join_refusal told stamp l tray room ≡ 0 → (ps : List (List ℕ))
    → Reaches O told.order.t told.order.f told.order.n (usable told stamp l tray) (word_of tray l) l ps
    → Tells O told stamp l tray ps (cond (all_at_most 255 (constants ps)) 0 8) (cond (all_at_most 255 (constants ps)) (constants ps) room) result left
reached_told F (refused h) z ps R = absurd (h z)
reached_told F {told} {stamp} {l} {tray} {room} (judged e D) z ps R =
    let g = reaches_outcome F.laws (keepers_apart F told.order (not_refused_order told stamp l tray room e)) D ps R in
    record { answers = g.0; leaves = g.1 }

-- what is agreed on is given
agreed_given : {O : Ops} → LetterField O → {told : Told} {stamp l : ℕ} {tray room left : List ℕ} {result : Joined}
    → JoinDone O told stamp l tray room result left → join_refusal told stamp l tray room ≡ 0 → (ps : List (List ℕ)) → SecretAgreed O told stamp l tray ps
    → Given O told stamp l tray ps result left
agreed_given F D z ps A = rw A.bytes at (reached_told F D z ps A.reaches)

-- where nothing told or lent is refused, 0 is answered exactly when polynomials match enough letters and all their constants are bytes
pub accepted : {O : Ops} → LetterField O → {told : Told} {stamp l : ℕ} {tray room left : List ℕ} {result : Joined}
    → JoinDone O told stamp l tray room result left → join_refusal told stamp l tray room ≡ 0
    → (result.number ≡ 0) ↔ ((ps : List (List ℕ)) × SecretAgreed O told stamp l tray ps)
accepted F D z =
    (λ e. let a = zero_agreed D e in (a.0, a.1), λ a. ap (λ (r : Joined). r.number) (agreed_given F D z a.0 a.1).answers)
