-- The outcome of the rows that a scan gathered is that of the tray's usable letters.
-- Assumes nothing.
use Rattle.std.specs.Prelude.{ℕ, ◌≤◌, ◌<◌, ◌≡◌, false, List, length}
use Rattle.std.proofs.Common.{sym, ap, ◌∙◌}
use Rattle.lists.specs.KeeperSet.{member, keeper_set}
use Rattle.lists.specs.KeeperSetLaws.{keeper_set_lt, member-keeper_set, member-past}
use Rattle.algebra.specs.Field.{Ops}
use Rattle.weigh.specs.Weigh.{row_word}
use Rattle.header.specs.declared.told.Told.{Told}
use Rattle.agree.specs.ScanLaws.{SameScan}
use Rattle.tray.specs.Tray.{usable, word_of}
use Rattle.tray.specs.Scan.{Scanned}
use Rattle.join.specs.Join.{Joined}
use Rattle.join.specs.Join.{join_refusal, Outcome, JoinDone, judged}
use Rattle.join.specs.OutcomeLaws.{outcome_scan, outcome_within}
use Rattle.join.specs.RefusalLaws.{accepted_facts}

module _ (told : Told) (stamp l : ℕ) (tray : List ℕ) (set : ℕ) (rows : List ℕ) (s : Scanned told stamp l tray set rows) where
  past : (x : ℕ) → told.order.n < x → member set x ≡ false
  past x h = rw s.keepers (member-past (keeper_set (usable told stamp l tray) told.order.n) told.order.n x (keeper_set_lt (usable told stamp l tray) told.order.n) h)

  same_usable : (x : ℕ) → 1 ≤ x → x ≤ told.order.n → member set x ≡ usable told stamp l tray x
  same_usable x least most = ap (λ (z : ℕ). member z x) s.keepers ∙ member-keeper_set (usable told stamp l tray) told.order.n x least most

  same_scan : SameScan told.order.n l (member set) (usable told stamp l tray) (row_word rows) (word_of tray l)
  same_scan = record { same_usable = same_usable; same_words = λ x least most u i h. s.words x i (sym (same_usable x least most) ∙ u) h }

  scanned_outcome : {O : Ops} {t f : ℕ} {room left : List ℕ} {result : Joined} → told.order.n ≤ 16
      → Outcome O t f 16 (member set) (row_word rows) l room result left → Outcome O t f told.order.n (usable told stamp l tray) (word_of tray l) l room result left
  scanned_outcome h o = outcome_scan same_scan (outcome_within past h o)

  -- so the join is done as promised, where it is not refused
  pub scanned_done : {O : Ops} {room left : List ℕ} {result : Joined} → join_refusal told stamp l tray room ≡ 0
      → Outcome O told.order.t told.order.f 16 (member set) (row_word rows) (length room) room result left → JoinDone O told stamp l tray room result left
  scanned_done {room = room} e o =
      let facts = accepted_facts told stamp l tray room e in
      judged e (scanned_outcome facts.of_terms.of_told.of_order.n_most (rw facts.room_lent at o))
