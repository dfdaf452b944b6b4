-- What the pick names is what the join finds: told that stamp and length it gives the pick's number, whatever the room held.
-- Assumes nothing.
use Rattle.std.specs.Prelude.{ℕ, ◌≤◌, ◌<◌, ◌≡◌, List, length}
use Rattle.std.proofs.Common.{sym, ap, ◌∙◌, arith}
use Rattle.std.proofs.lemmas.List.{length-replicate}
use Rattle.algebra.specs.Field.{Ops}
use Rattle.header.specs.declared.told.Told.{Told}
use Rattle.cut.specs.LetterField.{LetterField, keepers_apart}
use Rattle.join.specs.Join.{Joined}
use Rattle.join.specs.DoneLaws.{done_any_room}
use Rattle.join.specs.Join.{join_refusal, JoinDone}
use Rattle.pick.specs.Pick.{Picked}
use Rattle.pick.specs.Pick.{JoinGives, PickDone}
use Rattle.pick.specs.Pick as pick
use Rattle.demands.proofs.JoinAnswers.{not_refused_order}

module _ {O : Ops} (F : LetterField O) {told : Told} {tray room left : List ℕ} {result : Joined} where
  given : {stamp l number : ℕ} → JoinGives O told tray stamp l number → length room ≡ l → JoinDone O told stamp l tray room result left → result.number ≡ number
  given {stamp} {l} J s D =
      let apart : join_refusal told stamp l tray room ≡ 0 → told.order.n < O.q = λ e. keepers_apart F told.order (not_refused_order told stamp l tray room e) in
      ap (λ (r : Joined). r.number) (done_any_room F.laws apart (s ∙ sym (length-replicate l 0)) D J.done) ∙ J.numbered

  -- where the pick names a stamp and length, their join has the pick's number
  pub picked_joins : {p : Picked} → PickDone O told tray p → 1 ≤ p.stamp → length room ≡ p.length → JoinDone O told p.stamp p.length tray room result left
      → result.number ≡ p.number
  picked_joins (pick.refused h) some s D = absurd (omega arith)
  picked_joins (pick.none e h) some s D = absurd (omega arith)
  picked_joins (pick.chosen stamp l e first) some s D = given first.has.joins s D
  picked_joins (pick.stuck number stamp l e never first J) some s D = given J s D
