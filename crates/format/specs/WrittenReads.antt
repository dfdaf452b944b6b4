-- A slot as written reads as good, and gives back its head, its share words and its word 14.
-- Assumes nothing.
use Rattle.std.specs.Prelude.{ℕ, ◌+◌, ◌-◌, ◌*◌, ◌<◌, ◌≤◌, ◌≡◌, true, List, ◌++◌, length, get_or, drop, replicate}
use Rattle.std.proofs.Common.{◌∙◌, arith, length-append, take_at}
use Rattle.std.proofs.Math.ListN.{length-replicate}
use Rattle.std.proofs.Math.Seq.{drop_at}
use Rattle.lists.specs.Below.{Below, below_append}
use Rattle.lists.specs.Pieces.{pieces, pieces_same, length-pieces, part-pieces-append, below_pieces}
use Rattle.lists.specs.Zeros.{below_zeros}
use Rattle.block.specs.WordLaws.{words_bytes, below_bytes}
use Rattle.block.specs.Check.{sealed}
use Rattle.block.specs.AtMostLaws.{zeros_at_most}
use Rattle.block.specs.CheckLaws.{below_sealed}
use Rattle.header.specs.declared.head.Head.{Head}
use Rattle.header.specs.Head.{lawful_head, head_of, head_words}
use Rattle.header.specs.HeadLaws.{HeadFacts, lawful_head_facts}
use Rattle.header.specs.HeaderLaws.{length-head_words, head_of-words, from_written}
use Rattle.format.specs.Reading.{Good, block_words, letter_block_number, all_shares, shares_of, ends_in_zeros, read_as}
use Rattle.format.specs.Letter.{block_shares, block_bytes, slot_bytes}
use Rattle.format.specs.LetterSizes.{block_count, BlocksFacts, blocks_facts, length-block_shares, length-block_bytes}
use Rattle.format.specs.SlotWords.{shares_at}
use Rattle.format.specs.LetterBlockLaws.{sealed-append, below_block_words, block_written}
use Rattle.format.specs.ShareLaws.{pieces-shares, below_block_shares}
use Rattle.format.specs.GoodSlot.{slot_good}

-- a slot as written, with a mark and a number in word 14: it reads as good, and gives back what it was written from
pub record ReadsAs (mark most from : ℕ) (h : Head) (shares : List ℕ) : Type 0 where
  pub size : length (slot_bytes mark from h shares) ≡ 2048
  pub bytes : Below 256 (slot_bytes mark from h shares)
  pub good : read_as mark most (slot_bytes mark from h shares) ≡ Good h
  pub same_shares : shares_of (slot_bytes mark from h shares) h.length ≡ shares
  pub same_from : (p : ℕ) → p < block_count h → get_or (block_words (slot_bytes mark from h shares) p) 14 0 ≡ from

-- the zero bytes after the blocks
abbrev rest : Head → List ℕ
rest h = replicate (2048 - 512 * block_count h) 0

module _ (mark from : ℕ) (h : Head) (shares : List ℕ) where
  length_blocks : (k : ℕ) → length (pieces (block_bytes mark from h shares) k) ≡ k * 512
  length_blocks k = length-pieces 512 (block_bytes mark from h shares) k (λ p l. length-block_bytes mark from h shares p)

  words-at : (p : ℕ) → p < block_count h → block_words (slot_bytes mark from h shares) p ≡ sealed (head_words mark from h p ++ block_shares shares p)
  unfolding slot_bytes block_bytes
  words-at p l =
      rw (part-pieces-append 512 (block_bytes mark from h shares) (block_count h) (λ i within. length-block_bytes mark from h shares i) (rest h) p l)
      (words_bytes (sealed (head_words mark from h p ++ block_shares shares p)))

  shares_at_lem : (p : ℕ) → p < block_count h → shares_at (slot_bytes mark from h shares) p ≡ block_shares shares p
  shares_at_lem p l =
      rw (words-at p l, sealed-append, drop_at (head_words mark from h p) _ 16 (length-head_words mark from h p))
      (take_at (block_shares shares p) _ 238 (length-block_shares shares p))

  past_blocks : drop (512 * block_count h) (slot_bytes mark from h shares) ≡ rest h
  unfolding slot_bytes
  past_blocks =
      drop_at (pieces (block_bytes mark from h shares) (block_count h)) (rest h) (512 * block_count h) (omega (arith, length_blocks (block_count h)))

  from_at_lem : (p : ℕ) → p < block_count h → get_or (block_words (slot_bytes mark from h shares) p) 14 0 ≡ from
  from_at_lem p l = rw (words-at p l, sealed-append) (from_written mark from h p _)

  module _ (most : ℕ) (marked : mark ≤ 256) (small : from ≤ 256) (le : from ≤ most) (lawful : lawful_head h ≡ true) (size : length shares ≡ h.length) (below : Below 257 shares) where
    facts : HeadFacts h
    facts = lawful_head_facts h lawful

    blocks : BlocksFacts h.length
    blocks = blocks_facts h.length facts.of_terms.length_least facts.of_terms.length_most

    more : ℕ
    more = 238 * block_count h - h.length

    filled : length shares + more ≡ block_count h * 238
    unfolding more
    filled = omega (arith, blocks)

    shares_all : all_shares (slot_bytes mark from h shares) (block_count h) ≡ shares ++ replicate more 0
    unfolding all_shares
    shares_all =
        pieces_same (shares_at (slot_bytes mark from h shares)) (block_shares shares) (block_count h) shares_at_lem
        ∙ pieces-shares shares (block_count h) more filled

    ends_written : ends_in_zeros (slot_bytes mark from h shares) h.length ≡ true
    unfolding ends_in_zeros
    ends_written =
        rw (shares_all, drop_at shares (replicate more 0) h.length size, past_blocks, zeros_at_most 0 more)
        (zeros_at_most 0 (2048 - 512 * block_count h))

    length-letter : length (slot_bytes mark from h shares) ≡ 2048
    unfolding slot_bytes
    length-letter = simp (length-append, length-replicate, length_blocks) (omega (arith, blocks))

    first_written : head_of (block_words (slot_bytes mark from h shares) 0) ≡ h
    first_written = rw (words-at 0 blocks.least, sealed-append) (head_of-words mark from h 0 _ facts)

    below_words : (p : ℕ) → p < block_count h → Below 257 (head_words mark from h p ++ block_shares shares p)
    below_words p l =
        below_block_words mark h p from (block_shares shares p) marked small lawful (omega (arith, blocks))
        (below_block_shares shares (block_count h) more filled below p l)

    faultless_written : (p : ℕ) → p < block_count h → letter_block_number mark most h p (block_words (slot_bytes mark from h shares) p) ≡ 0
    faultless_written p l =
        rw (words-at p l) (block_written mark h p most from (block_shares shares p) le lawful (length-block_shares shares p) (below_words p l))

    below_block : (p : ℕ) → p < block_count h → Below 256 (block_bytes mark from h shares p)
    unfolding block_bytes
    below_block p l =
        let words = head_words mark from h p ++ block_shares shares p in
        below_bytes (sealed words) (λ i within. omega (arith, below_sealed words (below_words p l) i within))

    below_letter : Below 256 (slot_bytes mark from h shares)
    unfolding slot_bytes
    below_letter =
        below_append 256 (pieces (block_bytes mark from h shares) (block_count h)) (rest h)
        (below_pieces 256 (block_bytes mark from h shares) (block_count h) below_block)
        (below_zeros 255 (2048 - 512 * block_count h))

    pub written_reads_as : ReadsAs mark most from h shares
    written_reads_as = record {
      size = length-letter;
      bytes = below_letter;
      good = slot_good mark most (slot_bytes mark from h shares) h (record {
        size = length-letter;
        first = first_written;
        faultless = λ p l. faultless_written p (omega (arith, blocks));
        ends = ends_written;
      });
      same_shares = rw shares_all (take_at shares (replicate more 0) h.length size);
      same_from = from_at_lem;
    }

-- a letter
abbrev pub Reads : Head → List ℕ → Type 0
Reads h shares = ReadsAs 81 0 0 h shares

pub written_reads : (h : Head) (shares : List ℕ) → lawful_head h ≡ true → length shares ≡ h.length → Below 257 shares → Reads h shares
written_reads h shares lawful size below =
    written_reads_as 81 0 h shares 0 (omega arith) (omega arith) (omega arith) lawful size below
