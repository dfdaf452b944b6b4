-- `format::reader::ends_in_zeros` meets its contract: the words that it looks at are the share words past l and the words past the last block.
-- Assumes nothing.
use Rattle.std.proofs.Common.{ℕ, ◌+◌, ◌-◌, ◌*◌, ◌≤◌, ◌≡◌, sym, ap, ◌∙◌, List, arith, length, take, drop, length-drop, take_all}
use Rattle.block.specs.Check.{all_at_most}
use Rattle.block.specs.WordParts.{length-words}
use Rattle.block.specs.Words.{words_of}
use Rattle.format.proofs.Counting.{Counted, counted}
use Rattle.format.specs.Letter.{blocks_for}
use Rattle.format.specs.Reading.{all_shares, ends_in_zeros}
use Rattle.format.specs.SlotWords.{shares-past, zeros_past}
use Rattle.format.proofs.reader.ends_in_zeros.Goals as goal

module _ (slot : List ℕ) (size : length slot ≡ 2048) where
  shares_end : (l count : ℕ) → 1 ≤ l → l ≤ 952 → count ≡ blocks_for l
      → let end = 256 * (count - 1) + 16 + (l - 238 * (count - 1)) in
      take (256 * (count - 1) + 254 - end) (drop end (words_of slot)) ≡ drop l (all_shares slot (blocks_for l))
  shares_end l count least most many =
      let last = blocks_for l - 1 in
      let same : 256 * last + 254 - (256 * last + 16 + (l - 238 * last)) ≡ 254 - (16 + (l - 238 * last)) = omega arith in
      rw (many, same) (sym (shares-past slot size l least most))

  bytes_end : (l count : ℕ) → count ≤ 4 → count ≡ blocks_for l
      → all_at_most 0 (take (1024 - 256 * count) (drop (256 * count) (words_of slot))) ≡ all_at_most 0 (drop (512 * blocks_for l) slot)
  bytes_end l count most many =
      rw (take_all (1024 - 256 * count) (drop (256 * count) (words_of slot)) (rw (length-drop, length-words) (omega arith)), many)
      (sym (zeros_past slot size (blocks_for l)))

pub returns-then-all_at_most : goal.returns-then-all_at_most
unfolding ends_in_zeros
returns-then-all_at_most c =
    let sizes : Counted c.args.l c.blocks-count.result =
    counted c.args.l c.blocks-count.result c.requires.2 c.blocks-count.ensures in
    let shares-zero : let a = c.args in c.all_at_most.result ≡ all_at_most 0 (drop a.l (all_shares a.slot.now (blocks_for a.l))) =
    c.all_at_most.ensures
    ∙ ap (all_at_most 0) (shares_end c.args.slot.now c.requires.0 c.args.l c.blocks-count.result c.requires.1 c.requires.2 c.blocks-count.ensures) in
    let bytes-zero = c.all_at_most-then-all_at_most.ensures ∙ bytes_end c.args.slot.now c.requires.0 c.args.l c.blocks-count.result (omega (arith, sizes)) c.blocks-count.ensures in
    rw (← shares-zero, ← bytes-zero, c.if-all_at_most.true)

pub returns-else-all_at_most : goal.returns-else-all_at_most
unfolding ends_in_zeros
returns-else-all_at_most c =
    let shares-zero : let a = c.args in c.all_at_most.result ≡ all_at_most 0 (drop a.l (all_shares a.slot.now (blocks_for a.l))) =
    c.all_at_most.ensures
    ∙ ap (all_at_most 0) (shares_end c.args.slot.now c.requires.0 c.args.l c.blocks-count.result c.requires.1 c.requires.2 c.blocks-count.ensures) in
    rw (← shares-zero, c.if-all_at_most.false)
