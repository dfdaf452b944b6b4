-- "Equal meaning, equal bytes: one slot only for each header and share words."
-- Assumes nothing.
use Rattle.std.specs.Prelude.{ℕ, ◌<◌, ◌≡◌, true, List, length, get_or}
use Rattle.std.proofs.Common.{sym, ap, ◌∙◌}
use Rattle.lists.specs.Below.{Below}
use Rattle.header.specs.declared.head.Head.{Head}
use Rattle.header.specs.Head.{lawful_head}
use Rattle.header.specs.HeadLaws.{lawful_head_facts}
use Rattle.format.specs.Reading.{Good, block_words, shares_of, read_as, read_of}
use Rattle.format.specs.LetterSizes.{block_count, blocks_facts}
use Rattle.format.specs.ReadingBounds.{good_lawful_as}
use Rattle.format.specs.Letter.{slot_bytes, letter_bytes}
use Rattle.format.specs.WrittenReads.{ReadsAs, written_reads}
use Rattle.format.specs.GoodWritten.{good_written_as, good_written}

-- the words 14 of a slot of this head are all one number
abbrev pub FromIn : List ℕ → Head → ℕ → Type 0
FromIn slot h from = (p : ℕ) → p < block_count h → get_or (block_words slot p) 14 0 ≡ from

module _ (mark most : ℕ) where
  -- two good slots that give the same head, share words and word 14 are one
  pub same_slot_as : (from : ℕ) (one two : List ℕ) (h : Head) → Below 256 one → Below 256 two → read_as mark most one ≡ Good h → read_as mark most two ≡ Good h
      → FromIn one h from → FromIn two h from → shares_of one h.length ≡ shares_of two h.length → one ≡ two
  same_slot_as from one two h bytes_one bytes-two read_one read-two from_one from-two same =
      (good_written_as mark most from one h bytes_one read_one from_one).written
      ∙ (ap (slot_bytes mark from h) same ∙ sym (good_written_as mark most from two h bytes-two read-two from-two).written)

  -- two slots, as written, of the same bytes have the same head, share words and word 14
  pub same_written_as : (e k : ℕ) (g h : Head) (vs ws : List ℕ) → ReadsAs mark most e g vs → ReadsAs mark most k h ws → slot_bytes mark e g vs ≡ slot_bytes mark k h ws
      → (g ≡ h) × (vs ≡ ws) × (e ≡ k)
  same_written_as e k g h vs ws v w same =
      let read-v = v.good in
      let read-w = w.good in
      let shares-v = v.same_shares in
      let shares-w = w.same_shares in
      let heads : g ≡ h = cc in
      let facts = lawful_head_facts g (good_lawful_as mark most (slot_bytes mark e g vs) g read-v) in
      let some = (blocks_facts g.length facts.of_terms.length_least facts.of_terms.length_most).least in
      let from-v = v.same_from 0 some in
      let from-w = w.same_from 0 (rw (← heads) some) in
      (heads, cc, cc)

-- two good letters that give the same head and share words are one
pub same_slot : (one two : List ℕ) (h : Head) → Below 256 one → Below 256 two → read_of one ≡ Good h → read_of two ≡ Good h
    → shares_of one h.length ≡ shares_of two h.length → one ≡ two
same_slot one two h bytes_one bytes-two read_one read-two same =
    (good_written one h bytes_one read_one).written ∙ (ap (letter_bytes h) same ∙ sym (good_written two h bytes-two read-two).written)

-- two letters, as written, of the same bytes have the same head and share words
pub same_letter : (g h : Head) (vs ws : List ℕ) → lawful_head g ≡ true → lawful_head h ≡ true → length vs ≡ g.length → length ws ≡ h.length
    → Below 257 vs → Below 257 ws → letter_bytes g vs ≡ letter_bytes h ws → (g ≡ h) × (vs ≡ ws)
same_letter g h vs ws lawful-g lawful-h size-v size-w below-v below-w same =
    let both = same_written_as 81 0 0 0 g h vs ws (written_reads g vs lawful-g size-v below-v) (written_reads h ws lawful-h size-w below-w) same in
    (both.0, both.1)
