-- `report_text::report` meets its contract: the bytes of the page are copied to the start of the space lent.
-- Assumes nothing.
use Rattle.std.proofs.Common.{ℕ, ◌++◌, ap, ap₂, ◌∙◌, length, drop}
use Rattle.report_text.proofs.report.Goals as goal

pub returns : goal.returns
returns c =
    let value = c.bytes-bytes.ensures.value in
    record {
      bytes = c.page-page.result.text;
      right = c.page-page.ensures;
      counted = ap length value;
      written = ap₂ ◌++◌ (c.copy_from_slice.ensures.after ∙ value) (ap (λ (n : ℕ). drop n c.args.out.now) (ap length value));
    }
