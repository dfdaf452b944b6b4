-- `weighing::filling::fill` meets its contract: the row is filled with the weighed words, and then written.
-- Assumes nothing.
use Rattle.std.proofs.Common.{◌≡◌, sym, ap, ◌∙◌}
use Rattle.header.specs.Head.{lawful_head}
use Rattle.header.specs.declared.head.Head.{Head}
use Rattle.tray.specs.Tray.{head_for}
use Rattle.weighing.specs.Weighing.{weighed_letter}
use Rattle.weighing.proofs.filling.fill.Goals as goal

pub write-requires : goal.write-requires
write-requires c =
    let a = c.args in
    let head : c.head_for.result ≡ head_for a.m.told a.m.stamp a.m.length a.keeper = rw c.terms.ensures at c.head_for.ensures in (
      ap lawful_head head ∙ c.requires.head,
      c.weigh_rows.auto.row ∙ c.requires.row_length ∙ sym (ap (λ (h : Head). h.length) head),
      c.requires.room,
    )

pub returns : goal.returns
unfolding weighed_letter
returns c = c.write.ensures ∙ rw (c.head_for.ensures, c.terms.ensures, c.weigh_rows.ensures, c.requires.row_length)
