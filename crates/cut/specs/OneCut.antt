-- One cut, and what stands in each slot of its tray.
-- Assumes nothing.
use Prim.Native.Nat.{ℕ, suc, ◌*◌, ◌-◌}
use Rattle.std.specs.Prelude.{◌≡◌, true, List, length}
use Rattle.std.proofs.Common.{◌∙◌}
use Rattle.std.proofs.Math.Nat.{mul_comm}
use native.Mathlib.Omega.{arith}
use Rattle.lists.specs.Below.{Below}
use Rattle.lists.specs.Pieces.{length-pieces, part-pieces, below_pieces}
use Rattle.algebra.specs.Field.{Ops}
use Rattle.header.specs.declared.told.Told.{Told}
use Rattle.header.specs.OrderLaws.{KeeperFacts, facts_lawful_keeper}
use Rattle.header.specs.Head.{lawful_head}
use Rattle.header.specs.Terms.{lawful_stamp}
use Rattle.header.specs.Told.{lawful_told}
use Rattle.format.specs.Reading.{Good, read_of, shares_of}
use Rattle.format.specs.WrittenReads.{Reads, written_reads}
use Rattle.tray.specs.Tray.{head_for, slot_of}
use Rattle.shares.specs.OneWords.{OneWords}
use Rattle.shares.specs.Shares.{share_words}
use Rattle.shares.specs.ShareWords.{length-share_words, below_share_words}
use Rattle.cut.specs.Cut.{letter_of, cut_tray}
use Rattle.cut.specs.LetterField.{LetterField}

-- What one cut into letters is given: all that a cut of words is, a lawful order and key, and a lawful stamp.
pub record OneCut (O : Ops) (told : Told) (stamp : ℕ) (constants random : List ℕ) : Type 0 where
  pub of_words : OneWords O told.order constants random
  pub told_lawful : lawful_told told ≡ true
  pub stamp_lawful : lawful_stamp stamp ≡ true

module _ {O : Ops} (F : LetterField O) {told : Told} {stamp : ℕ} {constants random : List ℕ} (C : OneCut O told stamp constants random) where
  head_lawful : (x : ℕ) → KeeperFacts told.order x → lawful_head (head_for told stamp (length constants) x) ≡ true
  unfolding lawful_head
  head_lawful x k = rw (C.told_lawful, facts_lawful_keeper told.order x k, C.stamp_lawful) C.of_words.length_lawful

  -- keeper x's letter reads as written
  letter_reads : (x : ℕ) → KeeperFacts told.order x → Reads (head_for told stamp (length constants) x) (share_words O told.order.t x constants random)
  letter_reads x k =
      written_reads (head_for told stamp (length constants) x) (share_words O told.order.t x constants random) (head_lawful x k)
      (length-share_words O told.order.t x constants random)
      (λ i h. omega (arith, F.most, below_share_words O told.order.t x F.laws constants random i h))

  length-letter : (x : ℕ) → KeeperFacts told.order x → length (letter_of O told stamp constants random x) ≡ 2048
  unfolding letter_of
  length-letter x k = (letter_reads x k).size

  pub length-cut_tray : length (cut_tray O told stamp constants random) ≡ 2048 * told.order.n
  unfolding cut_tray
  length-cut_tray = length-pieces 2048 (λ k. letter_of O told stamp constants random (suc k)) told.order.n (λ i h. length-letter (suc i) (omega arith)) ∙ mul_comm told.order.n 2048

  below_letter : (x : ℕ) → KeeperFacts told.order x → Below 256 (letter_of O told stamp constants random x)
  unfolding letter_of
  below_letter x k = (letter_reads x k).bytes

  pub below_cut_tray : Below 256 (cut_tray O told stamp constants random)
  unfolding cut_tray
  below_cut_tray = below_pieces 256 (λ k. letter_of O told stamp constants random (suc k)) told.order.n (λ i h. below_letter (suc i) (omega arith))

  pub slot-cut : (x : ℕ) → KeeperFacts told.order x → slot_of (cut_tray O told stamp constants random) x ≡ letter_of O told stamp constants random x
  unfolding slot_of cut_tray
  slot-cut x k =
      let e : suc (x - 1) ≡ x = omega arith in
      part-pieces 2048 (λ k. letter_of O told stamp constants random (suc k)) told.order.n (λ i h. length-letter (suc i) (omega arith)) (x - 1) (omega arith) ∙ rw e

  -- what its owner reads there
  pub read_cut : (x : ℕ) → KeeperFacts told.order x → read_of (slot_of (cut_tray O told stamp constants random) x) ≡ Good (head_for told stamp (length constants) x)
  unfolding letter_of
  read_cut x k = rw (slot-cut x k) (letter_reads x k).good

  pub shares_cut : (x : ℕ) → KeeperFacts told.order x → shares_of (slot_of (cut_tray O told stamp constants random) x) (length constants) ≡ share_words O told.order.t x constants random
  unfolding letter_of
  shares_cut x k = rw (slot-cut x k) (letter_reads x k).same_shares
