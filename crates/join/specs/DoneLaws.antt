-- What the join answers does not hang on what the room held.
-- Assumes nothing.
use Rattle.std.specs.Prelude.{ℕ, ◌<◌, ◌≡◌, List, length}
use Rattle.std.proofs.Common.{sym, ap, ◌∙◌}
use Rattle.algebra.specs.Field.{Ops, IsField}
use Rattle.header.specs.declared.told.Told.{Told}
use Rattle.join.specs.Join.{Joined}
use Rattle.join.specs.Join.{answer, join_refusal, JoinDone, refused, judged}
use Rattle.join.specs.OutcomeLaws.{outcome_same, outcome_room}

same_refusal : (told : Told) (stamp l : ℕ) (tray room other : List ℕ) → length room ≡ length other → join_refusal told stamp l tray room ≡ join_refusal told stamp l tray other
unfolding join_refusal
same_refusal told stamp l tray room other s = rw s

pub done_any_room : {O : Ops} → IsField O → {told : Told} {stamp l : ℕ} {tray room other left left' : List ℕ} {result result' : Joined}
    → (join_refusal told stamp l tray room ≡ 0 → told.order.n < O.q) → length room ≡ length other
    → JoinDone O told stamp l tray room result left → JoinDone O told stamp l tray other result' left' → result ≡ result'
done_any_room F {told} {stamp} {l} {tray} {room} {other} apart s (refused h) (refused h') =
    ap (λ (number : ℕ). answer number 0 0 0 0) (same_refusal told stamp l tray room other s)
done_any_room F {told} {stamp} {l} {tray} {room} {other} apart s (refused h) (judged e D) = absurd (h (same_refusal told stamp l tray room other s ∙ e))
done_any_room F {told} {stamp} {l} {tray} {room} {other} apart s (judged e D) (refused h) = absurd (h (sym (same_refusal told stamp l tray room other s) ∙ e))
done_any_room F {other = other} apart s (judged e D) (judged e' D') = (outcome_same F (apart e) (outcome_room other D).1 D').0
