-- `moving::cutting::fill` meets its contract: the letter's share words are cut as words, and each row is written as a sub-letter.
-- Assumes nothing.
use Rattle.std.proofs.Common.{◌≡◌, ℕ, List, refl, sym, ap, ◌∙◌, arith, length-take, length-take-le}
use Rattle.field.specs.Modulo.{mod257}
use Rattle.format.specs.Reading.{shares_of}
use Rattle.header.specs.FirstOf.{both_right}
use Rattle.moving.specs.Cutting.{cut_refusal, move_cut_number}
use Rattle.moving.specs.CuttingLaws.{LentRight, OldRight, refusal_right, old_right, shares-cut_right, rows_tray, rows_few}
use Rattle.moving.specs.declared.terms.Move.{Move}
use Rattle.shares.specs.Fills.{filled}
use Rattle.moving.proofs.cutting.fill.Goals as goal

module _ (m : Move) (keeper : ℕ) (letter random tray : List ℕ) (right : move_cut_number m keeper letter random tray ≡ 0) where
  lent : LentRight m keeper letter random tray
  unfolding move_cut_number
  lent = refusal_right _ _ _ _ _ (both_right (cut_refusal m keeper letter random tray) _ right).0

  old : OldRight m keeper letter
  unfolding move_cut_number
  old = old_right _ _ _ (both_right (cut_refusal m keeper letter random tray) _ right).1

pub overflow_mul-size : goal.overflow_mul-size
overflow_mul-size c = omega (arith, rows_few (lent _ _ _ _ _ c.requires).terms)

pub slice_bounds-row_room-end : goal.slice_bounds-row_room-end
slice_bounds-row_room-end c = (lent _ _ _ _ _ c.requires).terms.of_terms.length_most

pub slice_bounds-row-end : goal.slice_bounds-row-end
slice_bounds-row-end c = sym (length-take-le _ _ (lent _ _ _ _ _ c.requires).terms.of_terms.length_most)

pub slice_bounds-rows_room-end : goal.slice_bounds-rows_room-end
slice_bounds-rows_room-end c = rows_few (lent _ _ _ _ _ c.requires).terms

pub slice_bounds-rows-end : goal.slice_bounds-rows-end
slice_bounds-rows-end c = sym (length-take-le _ _ (rows_few (lent _ _ _ _ _ c.requires).terms))

pub take_shares-requires : goal.take_shares-requires
take_shares-requires c =
    let right = lent _ _ _ _ _ c.requires in
    let most = right.terms.of_terms.length_most in
    (right.letter_lent, rw length-take (omega arith))

pub overflow_cast-from : goal.overflow_cast-from
overflow_cast-from c =
    let right = lent _ _ _ _ _ c.requires in
    record { fits = omega (arith, right.of_keeper, right.terms.of_old) }

pub write_subs-requires : goal.write_subs-requires
write_subs-requires c =
    let right = lent _ _ _ _ _ c.requires in
    record { terms = right.terms; rows_length = c.cut.auto.rows ∙ length-take-le _ _ (rows_few right.terms); tray_length = right.tray_lent }

pub returns : goal.returns
returns c =
    let right = lent _ _ _ _ _ c.requires in
    let taken : c.take_shares.new.row ≡ shares_of c.args.letter.now c.args.m.length =
    c.take_shares.ensures ∙ ap (shares_of c.args.letter.now) (length-take-le _ _ right.terms.of_terms.length_most) in
    let of_letter = old _ _ _ _ _ c.requires in
    rows_tray right of_letter mod257 _ _ _ _ refl taken
    (filled c.cut.ensures (shares-cut_right right of_letter _ _ taken (length-take-le _ _ (rows_few right.terms))))
    c.write_subs.ensures
