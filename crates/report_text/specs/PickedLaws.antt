-- What the pick says of a tray where lines are to be written: that there is a group to join.
-- Assumes nothing.
use Rattle.std.specs.Prelude.{ℕ, ◌≡◌, true, List}
use Rattle.std.proofs.lemmas.Bool.{false≢true}
use Rattle.std.proofs.Common.{⊎_elim}
use Rattle.algebra.specs.Field.{Ops}
use Rattle.header.specs.declared.told.Told.{Told}
use Rattle.pick.specs.Pick.{Picked}
use Rattle.pick.specs.Pick.{pick_refusal, PickDone, refused, none, chosen, stuck}
use Rattle.pick.specs.PickedLaws.{picked-length}
use Rattle.pick.specs.RefusalLaws.{pick_facts, refusal_number}
use Rattle.report_text.specs.Joined.{Joinable}
use Rattle.report_text.specs.Report.{has_lines}

module _ {O : Ops} {told : Told} {tray : List ℕ} where
  not_refused : {p : Picked} → PickDone O told tray p → has_lines p.number ≡ true → pick_refusal told tray ≡ 0
  not_refused (refused h) e =
      absurd (⊎_elim
      (λ (one : pick_refusal told tray ≡ 1). false≢true (rw one at e))
      (λ (four : pick_refusal told tray ≡ 4). false≢true (rw four at e)) (refusal_number told tray h))
  not_refused (none r h) e = r
  not_refused (chosen stamp l r first) e = r
  not_refused (stuck number stamp l r never first J) e = r

  pub picked_joinable : {p : Picked} → PickDone O told tray p → has_lines p.number ≡ true → Joinable told p.length tray
  picked_joinable D e =
      let facts = pick_facts told tray (not_refused D e) in
      record { few = facts.of_told.of_order.n_most; small = facts.of_told.key_most; short = picked-length D; slots = facts.slots }
