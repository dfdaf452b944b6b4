-- `report_text::report_picked` meets its contract: with what the pick says there is only an answer, or the group picked is joined.
-- Assumes nothing.
use Rattle.std.proofs.Common.{sym, ap, ◌∙◌}
use Rattle.refusals.specs.Numbers.{code_of}
use Rattle.report_text.proofs.Reporting.{unpicked_reported, joined_reported}
use Rattle.report_text.specs.PickedLaws.{picked_joinable}
use Rattle.report_text.proofs.report_picked.Goals as goal

pub report_joined-requires : goal.report_joined-requires
report_joined-requires c = picked_joinable c.pick-picked.ensures (sym c.has_lines.ensures ∙ c.if-not-has_lines.false)

pub returns-then-not-has_lines : goal.returns-then-not-has_lines
returns-then-not-has_lines c =
    unpicked_reported c.requires.input_room c.requires.told_is c.pick-picked.ensures
    (sym c.has_lines.ensures ∙ c.if-not-has_lines.true) (ap code_of c.alone.ensures.outcome) c.alone.ensures.text

pub returns : goal.returns
returns c =
    joined_reported c.requires.input_room c.requires.told_is c.pick-picked.ensures
    (sym c.has_lines.ensures ∙ c.if-not-has_lines.false) c.report_joined.ensures
