-- `cut::secret::fill` meets its contract: what is laid out is the cut's, and so are its letters.
-- Assumes nothing.
use Rattle.std.proofs.Common.{ℕ, List, ◌+◌, ◌*◌, ◌≤◌, ◌≡◌, sym, ap, ◌∙◌, arith, length, length-take-le}
use Rattle.cut.specs.Cut.{cut_number}
use Rattle.cut.specs.CutLaws.{CutFacts, accepted_facts}
use Rattle.cut.specs.LetterLaws.{laid_lent, laid_cut}
use Rattle.field.specs.Modulo.{mod257}
use Rattle.header.specs.declared.terms.Terms.{Terms}
use Rattle.shares.specs.ColumnLaws.{columns_most}
use Rattle.cut.proofs.secret.fill.Goals as goal

module _ (terms : Terms) (secret random tray : List ℕ) (long : terms.length ≡ length secret) (right : cut_number terms.told terms.stamp secret random tray ≡ 0) where
  facts : CutFacts terms.told terms.stamp secret random tray
  facts = accepted_facts terms.told terms.stamp secret random tray right

  -- a row is 952 words at the most, and the columns 7616
  short : terms.length ≤ 952
  short = rw long facts.of_terms.length_most

  few : terms.length * (terms.told.order.t + 1) ≤ 7616
  few = columns_most _ _ short facts.of_terms.of_told.of_order.t_most

pub overflow_add-size : goal.overflow_add-size
overflow_add-size c = let known = facts _ _ _ _ c.requires.length c.requires.right in omega arith

pub overflow_mul-size : goal.overflow_mul-size
overflow_mul-size c = omega (arith, few _ _ _ _ c.requires.length c.requires.right)

pub slice_bounds-columns_room-end : goal.slice_bounds-columns_room-end
slice_bounds-columns_room-end c = few _ _ _ _ c.requires.length c.requires.right

pub slice_bounds-columns-end : goal.slice_bounds-columns-end
slice_bounds-columns-end c = sym (length-take-le _ _ (few _ _ _ _ c.requires.length c.requires.right))

pub slice_bounds-row_room-end : goal.slice_bounds-row_room-end
slice_bounds-row_room-end c = short _ _ _ _ c.requires.length c.requires.right

pub slice_bounds-row-end : goal.slice_bounds-row-end
slice_bounds-row-end c = sym (length-take-le _ _ (short _ _ _ _ c.requires.length c.requires.right))

pub put_bytes-requires : goal.put_bytes-requires
put_bytes-requires c = length-take-le _ _ (short _ _ _ _ c.requires.length c.requires.right) ∙ c.requires.length

pub lay_out-requires : goal.lay_out-requires
lay_out-requires c =
    let known = facts _ _ _ _ c.requires.length c.requires.right in
    record {
      words = rw c.put_bytes.ensures known.of_lent.words_lent;
      room = length-take-le _ _ (few _ _ _ _ c.requires.length c.requires.right) ∙ rw (c.put_bytes.ensures, c.requires.length);
    }

pub write_letters-requires : goal.write_letters-requires
write_letters-requires c =
    record {
      lent = laid_lent _ _ _ _ _ _ (rw c.put_bytes.ensures at c.lay_out.ensures) c.requires.length _ (facts _ _ _ _ c.requires.length c.requires.right);
      row_length = ap length c.put_bytes.ensures ∙ sym c.requires.length;
    }

pub returns : goal.returns
returns c =
    let known = facts _ _ _ _ c.requires.length c.requires.right in
    laid_cut _ _ _ _ _ _ (rw c.put_bytes.ensures at c.lay_out.ensures) c.requires.length mod257 _
    known.of_lent.words_lent c.write_letters.ensures
