-- `cut::letters::write_letter` meets its contract: the row is filled, and then written.
-- Assumes nothing.
use Rattle.std.proofs.Common.{refl, sym, ap, ◌∙◌, arith}
use Rattle.cut.specs.LetterLaws.{letter_written}
use Rattle.field.specs.Modulo.{mod257}
use Rattle.header.specs.Head.{lawful_head}
use Rattle.header.specs.HeadLaws.{lawful_head_facts}
use Rattle.header.specs.declared.head.Head.{Head}
use Rattle.cut.proofs.letters.write_letter.Goals as goal

pub share_row-requires : goal.share_row-requires
share_row-requires c =
    let facts = lawful_head_facts _ c.requires.head in
    record { as_long = rw c.requires.row_length c.requires.as_long; words = c.requires.words; keeper = omega arith }

pub write-requires : goal.write-requires
write-requires c = (
  ap lawful_head c.head_for.ensures ∙ c.requires.head,
  c.share_row.auto.row ∙ (c.requires.row_length ∙ sym (ap (λ (h : Head). h.length) c.head_for.ensures)),
  c.requires.room,
)

pub returns : goal.returns
returns c =
    letter_written mod257 _ _ _ _ _ _ _ _ refl (rw c.requires.row_length at c.share_row.ensures) (rw c.head_for.ensures at c.write.ensures)
