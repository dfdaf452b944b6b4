-- `join::join_over` meets its contract: the outcome is that of what the scan gathered.
-- Assumes nothing.
use Rattle.join.specs.RefusalLaws.{accepted_facts}
use Rattle.join.specs.Scanned.{scanned_done}
use Rattle.join.proofs.join_over.Goals as goal

pub scan-requires : goal.scan-requires
scan-requires c =
    let f = accepted_facts _ _ _ _ _ c.requires.not_refused in
    record { few = f.of_terms.of_told.of_order.n_most; short = f.of_terms.length_most; slots = f.tray_lent; room = c.requires.rows.whole; clean = c.requires.rows.words }

pub judge-requires-clause-t_small : goal.judge-requires-clause-t_small
judge-requires-clause-t_small c = (accepted_facts _ _ _ _ _ c.requires.not_refused).of_terms.of_told.of_order.t_most

pub judge-requires-clause-f_small : goal.judge-requires-clause-f_small
judge-requires-clause-f_small c = (accepted_facts _ _ _ _ _ c.requires.not_refused).of_terms.of_told.of_order.f_most

pub judge-requires-clause-room_small : goal.judge-requires-clause-room_small
judge-requires-clause-room_small c = let f = accepted_facts _ _ _ _ _ c.requires.not_refused in rw f.room_lent f.of_terms.length_most

pub returns : goal.returns
returns c =
    let a = c.args in (
      scanned_done a.terms.told a.terms.stamp a.terms.length a.tray.now c.scan.result c.scan.new.rows c.scan.ensures c.requires.not_refused c.judge.ensures,
      record { whole = c.scan.ensures.size; words = c.scan.ensures.below },
    )
