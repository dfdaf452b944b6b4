-- `shares::words::fill` meets its contract: what is laid out is the cut's, and so are its rows.
-- Assumes nothing.
use Rattle.std.proofs.Common.{ℕ, List, ◌+◌, ◌*◌, ◌≤◌, ◌≡◌, sym, arith, length, length-take-le}
use Rattle.field.specs.Modulo.{mod257}
use Rattle.header.specs.declared.order.Order.{Order}
use Rattle.shares.specs.ColumnLaws.{columns_most}
use Rattle.shares.specs.LentLaws.{laid_length, laid_within}
use Rattle.shares.specs.Words.{words_number}
use Rattle.shares.specs.WordsLaws.{accepted_words, laid_rows}
use Rattle.shares.proofs.words.fill.Goals as goal

-- the columns of an accepted cut are 7616 words at the most
most : (o : Order) (constants random rows : List ℕ) → words_number o constants random rows ≡ 0 → length constants * (o.t + 1) ≤ 7616
most o constants random rows right =
    let known = accepted_words o constants random rows right in
    columns_most _ _ known.length_most known.of_order.t_most

pub overflow_add-size : goal.overflow_add-size
overflow_add-size c =
    let known = accepted_words _ _ _ _ c.requires in
    omega arith

pub overflow_mul-size : goal.overflow_mul-size
overflow_mul-size c = omega (arith, most _ _ _ _ c.requires)

pub slice_bounds-room-end : goal.slice_bounds-room-end
slice_bounds-room-end c = most _ _ _ _ c.requires

pub slice_bounds-columns-end : goal.slice_bounds-columns-end
slice_bounds-columns-end c = sym (length-take-le _ _ (most _ _ _ _ c.requires))

pub lay_out-requires : goal.lay_out-requires
lay_out-requires c =
    let known = accepted_words _ _ _ _ c.requires in
    record { words = known.of_lent.words_lent; room = length-take-le _ _ (most _ _ _ _ c.requires) }

pub write_rows-requires : goal.write_rows-requires
write_rows-requires c =
    let known = accepted_words _ _ _ _ c.requires in
    record {
      as_long = laid_length known.of_lent c.lay_out.ensures;
      words = laid_within known.of_lent c.lay_out.ensures;
      keepers = known.of_order.n_most;
      room = known.of_lent.room_lent;
    }

pub returns : goal.returns
returns c =
    let known = accepted_words _ _ _ _ c.requires in
    laid_rows mod257 _ _ _ _ _ c.lay_out.ensures known.of_lent.words_lent c.write_rows.ensures
