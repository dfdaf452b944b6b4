-- `report_text::page` meets its contract: the first bytes are the order and the key, where they are there.
-- Assumes nothing.
use Rattle.std.proofs.Common.{ap, ◌∙◌}
use Rattle.lines.specs.Lines.{answer_line}
use Rattle.refusals.specs.Numbers.{code_of}
use Rattle.report_text.proofs.Reporting.{short_reported}
use Rattle.report_text.proofs.page.Goals as goal

pub returns-then-input-lt4 : goal.returns-then-input-lt4
returns-then-input-lt4 c =
    let refusal = c.short_refusal.ensures in
    short_reported c.if-input-lt4.true (ap code_of c.alone.ensures.outcome ∙ refusal) (c.alone.ensures.text ∙ ap answer_line refusal)
