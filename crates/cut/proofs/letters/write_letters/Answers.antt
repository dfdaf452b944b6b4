-- `cut::letters::write_letters` meets its contract: before each turn the letters of the first k keepers stand.
-- Assumes nothing.
use Rattle.std.proofs.Common.{◌*◌, ◌≡◌, refl, ◌∙◌, add-one, arith, rules}
use Rattle.cut.specs.LetterLaws.{lent_lawful}
use Rattle.shares.specs.Laying.{length_part, laying_none, laying_more, laying_done}
use Rattle.cut.proofs.letters.write_letters.Goals as goal

pub loop-k-init : goal.loop-k-init
loop-k-init c = laying_none _ _ _ _ c.requires.lent.tray_lent

pub write_letter-requires : goal.write_letter-requires
write_letter-requires c =
    record {
      head = lent_lawful c.requires.lent c.loop-k.k c.loop-k-test.true;
      row_length = c.loop-k.auto.row ∙ c.requires.row_length;
      as_long = c.requires.lent.columns_lent;
      words = c.requires.lent.columns_within;
      room = length_part (2048 * c.loop-k.k) 2048 c.loop-k.tray (omega arith);
    }

pub loop-k-preserved : goal.loop-k-preserved
loop-k-preserved c =
    let slot_size = length_part (2048 * c.loop-k.k) 2048 c.loop-k.tray (omega arith) in
    laying_more _ _ _ c.loop-k.tray c.loop-k.k c.write_letter.new.slot c.loop-k.invariant (search rules) (c.write_letter.auto.slot ∙ slot_size)
    (rw add-one at c.write_letter.ensures)

pub returns : goal.returns
returns c =
    let all : c.loop-k.k ≡ c.args.terms.told.order.n = omega arith in
    laying_done _ _ _ c.loop-k.tray c.args.terms.told.order.n (rw all at c.loop-k.invariant) refl
