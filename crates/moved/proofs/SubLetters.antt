-- What one old keeper cuts: each new keeper's sub-letter stands in its slot, reads as good, and gives back its share words and the old keeper.
-- Its share words are cut as any words are, so that what such a cut is given is a cut's.
-- Assumes nothing.
use Prim.Native.Nat.{ℕ, suc, ◌*◌, ◌-◌, ◌≤◌}
use Rattle.std.specs.Prelude.{◌≡◌, List, length}
use Rattle.std.proofs.Common.{◌∙◌}
use Rattle.std.proofs.Math.Nat.{mul_comm}
use native.Mathlib.Omega.{arith}
use Rattle.lists.specs.Below.{Below}
use Rattle.lists.specs.Pieces.{length-pieces, part-pieces, below_pieces}
use Rattle.algebra.specs.Field.{Ops}
use Rattle.header.specs.declared.told.Told.{Told}
use Rattle.header.specs.Head.{lawful_head}
use Rattle.header.specs.OrderLaws.{KeeperFacts, facts_lawful_keeper}
use Rattle.format.specs.WrittenReads.{ReadsAs, written_reads_as}
use Rattle.tray.specs.Tray.{head_for, slot_of}
use Rattle.shares.specs.Shares.{share_words}
use Rattle.shares.specs.ShareWords.{length-share_words, below_share_words}
use Rattle.cut.specs.LetterField.{LetterField}
use Rattle.cut.specs.OneCut.{OneCut}
use Rattle.moving.specs.Cutting.{sub_letter, sub_tray}

module _ {O : Ops} (F : LetterField O) {told : Told} {stamp : ℕ} {shares random : List ℕ} (C : OneCut O told stamp shares random)
    (from : ℕ) (small : from ≤ 256) where
  -- new keeper x's sub-letter reads as written
  pub sub_reads : (x : ℕ) → KeeperFacts told.order x
      → ReadsAs 82 256 from (head_for told stamp (length shares) x) (share_words O told.order.t x shares random)
  unfolding lawful_head
  sub_reads x k =
      written_reads_as 82 from (head_for told stamp (length shares) x) (share_words O told.order.t x shares random) 256 (omega arith) small small
      (rw (C.told_lawful, facts_lawful_keeper told.order x k, C.stamp_lawful) C.of_words.length_lawful)
      (length-share_words O told.order.t x shares random)
      (λ i h. omega (arith, F.most, below_share_words O told.order.t x F.laws shares random i h))

  length-sub : (x : ℕ) → KeeperFacts told.order x → length (sub_letter O told stamp from shares random x) ≡ 2048
  unfolding sub_letter
  length-sub x k = (sub_reads x k).size

  below_sub : (x : ℕ) → KeeperFacts told.order x → Below 256 (sub_letter O told stamp from shares random x)
  unfolding sub_letter
  below_sub x k = (sub_reads x k).bytes

  pub length-sub_tray : length (sub_tray O told stamp from shares random) ≡ 2048 * told.order.n
  unfolding sub_tray
  length-sub_tray =
      length-pieces 2048 (λ k. sub_letter O told stamp from shares random (suc k)) told.order.n (λ i h. length-sub (suc i) (omega arith))
      ∙ mul_comm told.order.n 2048

  pub below_sub_tray : Below 256 (sub_tray O told stamp from shares random)
  unfolding sub_tray
  below_sub_tray =
      below_pieces 256 (λ k. sub_letter O told stamp from shares random (suc k)) told.order.n (λ i h. below_sub (suc i) (omega arith))

  -- it stands in slot x
  pub slot-sub : (x : ℕ) → KeeperFacts told.order x
      → slot_of (sub_tray O told stamp from shares random) x ≡ sub_letter O told stamp from shares random x
  unfolding slot_of sub_tray
  slot-sub x k =
      let e : suc (x - 1) ≡ x = omega arith in
      part-pieces 2048 (λ k. sub_letter O told stamp from shares random (suc k)) told.order.n (λ i h. length-sub (suc i) (omega arith))
      (x - 1) (omega arith) ∙ rw e
