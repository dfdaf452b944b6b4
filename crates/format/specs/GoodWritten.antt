-- A slot that reads as good, with one number in the words 14 of its blocks, is the slot, as written, of the head and the share words that it gives.
-- Assumes nothing.
use Rattle.std.specs.Prelude.{ℕ, ◌+◌, ◌-◌, ◌*◌, ◌<◌, ◌≤◌, ◌≡◌, List, ◌++◌, get_or, take, drop, replicate}
use Rattle.std.proofs.Math.Path.{sym, ap}
use Rattle.std.proofs.Common.{◌∙◌, arith, length-take, take-append-drop, length-take-le, take-take}
use Rattle.std.proofs.Math.Bool.{true}
use Rattle.std.proofs.Math.ListN.{length, length-drop}
use Rattle.lists.specs.Below.{Below, below_take, below_drop}
use Rattle.lists.specs.Parts.{drop-take}
use Rattle.lists.specs.Pieces.{pieces, pieces_same, pieces-parts, part-pieces, below_pieces}
use Rattle.block.specs.WordLaws.{bytes_words}
use Rattle.block.specs.Check.{all_at_most}
use Rattle.block.specs.AtMostLaws.{at_most_zeros}
use Rattle.header.specs.declared.head.Head.{Head}
use Rattle.header.specs.Head.{lawful_head}
use Rattle.header.specs.HeadLaws.{HeadFacts, lawful_head_facts}
use Rattle.header.specs.Passing.{passed}
use Rattle.format.specs.Reading.{Good, block_words, all_shares, shares_of, ends_in_zeros, read_as, read_of}
use Rattle.format.specs.Letter.{block_shares, block_bytes, slot_bytes}
use Rattle.format.specs.LetterSizes.{block_count, BlocksFacts, blocks_facts}
use Rattle.format.specs.LetterBlockLaws.{BlockRead, block_read}
use Rattle.format.specs.ShareLaws.{block_shares_padded}
use Rattle.format.specs.SlotWords.{shares_at, length-block_words, length-shares_at, length-all_shares}
use Rattle.format.specs.GoodSlot.{GoodSlot, good_slot}

-- a slot that is as written, of what it gives
pub record WrittenAs (mark from : ℕ) (slot : List ℕ) (h : Head) : Type 0 where
  pub lawful : lawful_head h ≡ true
  pub size : length (shares_of slot h.length) ≡ h.length
  pub below : Below 257 (shares_of slot h.length)
  pub written : slot ≡ slot_bytes mark from h (shares_of slot h.length)

-- the words past the share words of a slot's blocks
abbrev past : List ℕ → Head → List ℕ
past slot h = drop h.length (all_shares slot (block_count h))

-- the bytes past its blocks
abbrev rest : List ℕ → Head → List ℕ
rest slot h = drop (512 * block_count h) slot

module _ (mark most : ℕ) (slot : List ℕ) (h : Head) (good : GoodSlot mark most slot h) where
  lawful_read : lawful_head h ≡ true
  lawful_read =
      (block_read mark h 0 most (block_words slot 0) (length-block_words slot good.size 0 (omega arith)) (good.faultless 0 (omega arith))
      ).lawful

  facts : HeadFacts h
  facts = lawful_head_facts h lawful_read

  blocks : BlocksFacts h.length
  blocks = blocks_facts h.length facts.of_terms.length_least facts.of_terms.length_most

  block : (p : ℕ) → p < block_count h → BlockRead mark h p most (block_words slot p)
  block p l =
      block_read mark h p most (block_words slot p) (length-block_words slot good.size p (omega (arith, blocks))) (good.faultless p (omega arith))

  length_all : length (all_shares slot (block_count h)) ≡ block_count h * 238
  length_all = length-all_shares slot good.size (block_count h) (omega (arith, blocks))

  length_read : length (shares_of slot h.length) ≡ h.length
  length_read = length-take-le h.length (all_shares slot (block_count h)) (omega (arith, blocks, length_all))

  below_read : Below 257 (shares_of slot h.length)
  unfolding all_shares
  below_read =
      below_take 257 h.length (all_shares slot (block_count h))
      (below_pieces 257 (shares_at slot) (block_count h)
      (λ p l. below_take 257 238 (drop 16 (block_words slot p)) (below_drop 257 16 (block_words slot p) (block p l).within)))

  all_read : all_shares slot (block_count h) ≡ shares_of slot h.length ++ replicate (length (past slot h)) 0
  unfolding ends_in_zeros
  all_read =
      let zeros : all_at_most 0 (past slot h) ≡ true = search (passed, good.ends) in
      sym (take-append-drop h.length (all_shares slot (block_count h)))
      ∙ ap (λ xs. shares_of slot h.length ++ xs) (at_most_zeros (past slot h) zeros)

  shares_read : (p : ℕ) → p < block_count h → block_shares (shares_of slot h.length) p ≡ shares_at slot p
  unfolding all_shares
  shares_read p l =
      let filled : length (shares_of slot h.length) + length (past slot h) ≡ block_count h * 238 = rw length-drop (omega (arith, blocks, length_all, length_read)) in
      block_shares_padded (shares_of slot h.length) (block_count h) (length (past slot h)) filled p l
      ∙ rw (← all_read)
      (part-pieces 238 (shares_at slot) (block_count h) (λ i within. length-shares_at slot good.size i (omega (arith, blocks))) p l)

  module _ (bytes : Below 256 slot) (from : ℕ) (each : (p : ℕ) → p < block_count h → get_or (block_words slot p) 14 0 ≡ from) where
    bytes_read : (p : ℕ) → p < block_count h → block_bytes mark from h (shares_of slot h.length) p ≡ take 512 (drop (512 * p) slot)
    unfolding block_bytes
    bytes_read p l =
        rw (shares_read p l, ← each p l, ← (block p l).words)
        (bytes_words 256 (take 512 (drop (512 * p) slot)) (rw (length-take, length-drop, good.size) (omega (arith, blocks)))
        (below_take 256 512 (drop (512 * p) slot) (below_drop 256 (512 * p) slot bytes)))

    front_part : (p : ℕ) → p < block_count h → take 512 (drop (512 * p) slot) ≡ take 512 (drop (512 * p) (take (512 * block_count h) slot))
    front_part p l =
        let room : 512 ≤ 512 * block_count h - 512 * p = omega arith in
        rw (drop-take, take-take)

    blocks_read : pieces (block_bytes mark from h (shares_of slot h.length)) (block_count h) ≡ take (512 * block_count h) slot
    blocks_read =
        pieces_same (block_bytes mark from h (shares_of slot h.length)) (λ p. take 512 (drop (512 * p) (take (512 * block_count h) slot))) (block_count h)
        (λ p l. bytes_read p l ∙ front_part p l)
        ∙ pieces-parts 512 (block_count h) (take (512 * block_count h) slot) (rw (length-take, good.size) (omega (arith, blocks)))

    rest_read : replicate (2048 - 512 * block_count h) 0 ≡ rest slot h
    unfolding ends_in_zeros
    rest_read =
        let zeros : all_at_most 0 (rest slot h) ≡ true = search (passed, good.ends) in
        sym (rw (length-drop, good.size) at (at_most_zeros (rest slot h) zeros))

    letter_read : slot ≡ slot_bytes mark from h (shares_of slot h.length)
    unfolding slot_bytes
    letter_read = sym (rw (blocks_read, rest_read) (take-append-drop (512 * block_count h) slot))

-- the share words of a good slot, whatever its words 14 are
pub good_shares : (mark most : ℕ) (slot : List ℕ) (h : Head) → read_as mark most slot ≡ Good h
    → (length (shares_of slot h.length) ≡ h.length) × Below 257 (shares_of slot h.length)
good_shares mark most slot h read =
    let good = good_slot mark most slot h read in (length_read mark most slot h good, below_read mark most slot h good)

pub good_written_as : (mark most from : ℕ) (slot : List ℕ) (h : Head) → Below 256 slot → read_as mark most slot ≡ Good h
    → ((p : ℕ) → p < block_count h → get_or (block_words slot p) 14 0 ≡ from) → WrittenAs mark from slot h
good_written_as mark most from slot h bytes read each =
    let good = good_slot mark most slot h read in
    record {
      lawful = lawful_read mark most slot h good;
      size = length_read mark most slot h good;
      below = below_read mark most slot h good;
      written = letter_read mark most slot h good bytes from each;
    }

-- a letter: its words 14 are at most 0
abbrev pub Written : List ℕ → Head → Type 0
Written slot h = WrittenAs 81 0 slot h

pub good_written : (slot : List ℕ) (h : Head) → Below 256 slot → read_of slot ≡ Good h → Written slot h
good_written slot h bytes read =
    let good = good_slot 81 0 slot h read in
    good_written_as 81 0 0 slot h bytes read (λ p l. omega (arith, (block 81 0 slot h good p l).small))
