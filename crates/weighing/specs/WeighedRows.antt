-- The share words of sub-letters, as a row for each of the old keepers that they name: mixed by the keepers' factors, they are the weighed words.
-- Assumes nothing.
use Rattle.std.specs.Prelude.{ℕ, suc, ◌+◌, ◌≤◌, ◌<◌, ◌≡◌, List, length, get_or}
use Rattle.std.proofs.Common.{add-one, arith, length-take-le}
use Rattle.lists.specs.Listed.{listed}
use Rattle.algebra.specs.Combine.{factors}
use Rattle.algebra.specs.Mixed.{mixed}
use Rattle.field.specs.Modulo.{mod257}
use Rattle.format.specs.Letter.{blocks_for}
use Rattle.format.specs.Reading.{all_shares, shares_of}
use Rattle.format.specs.SlotWords.{length-all_shares}
use Rattle.tray.specs.SlotLaws.{length-slot}
use Rattle.tray.specs.Tray.{slot_of}
use Rattle.weigh.specs.PlainRows.{Rows}
use Rattle.weighing.specs.Lent.{Weighable}
use Rattle.weighing.specs.Weighing.{weighed_words}

-- the l share words of sub-letter k
abbrev pub sub_row : List ℕ → ℕ → ℕ → List ℕ
sub_row letters l k = shares_of (slot_of letters (suc k)) l

length-shares : (slot : List ℕ) → length slot ≡ 2048 → (l : ℕ) → l ≤ 952 → length (shares_of slot l) ≡ l
unfolding blocks_for
length-shares slot size l most = length-take-le l (all_shares slot (blocks_for l)) (omega (arith, length-all_shares slot size (blocks_for l) (omega arith)))

module _ {froms letters row : List ℕ} (given : Weighable froms letters row) where
  sub_size : (k : ℕ) → k < length froms → length (slot_of letters (suc k)) ≡ 2048
  sub_size k h = length-slot letters (suc k) (omega arith) (omega (arith, given.lent.size))

  pub sub_rows : Rows froms (sub_row letters (length row)) (length row)
  sub_rows = record {
    few = given.lent.few;
    room = given.room;
    size = λ k h. length-shares (slot_of letters (suc k)) (sub_size k h) (length row) given.room;
    words = given.words;
  }

  -- the words that are taken from its slot
  pub sub_taken : (k : ℕ) {slot words : List ℕ} {l : ℕ} → slot ≡ slot_of letters (k + 1) → l ≡ length row → words ≡ shares_of slot l
      → words ≡ sub_row letters (length row) k
  sub_taken k here size read = rw (here, size, add-one) at read

  pub rows_weighed : listed (λ i. mixed mod257 (factors mod257 froms 0) (length froms) (λ k. get_or (sub_row letters (length row) k) i 0)) (length row)
      ≡ weighed_words mod257 letters (length froms) (length row)
  unfolding weighed_words
  rows_weighed = rw (← given.named)
