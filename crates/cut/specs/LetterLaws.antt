-- The letters of columns that a cut is laid out in are the cut's.
-- Assumes nothing.
use Rattle.std.specs.Prelude.{ℕ, suc, ◌+◌, ◌*◌, ◌<◌, ◌≡◌, true, List, length}
use Rattle.std.proofs.Common.{ap, ◌∙◌, arith}
use Rattle.lists.specs.Pieces.{pieces, pieces_same}
use Rattle.algebra.specs.Field.{Ops}
use Rattle.header.specs.declared.told.Told.{Told}
use Rattle.header.specs.Head.{lawful_head}
use Rattle.header.specs.HeadLaws.{facts_lawful_head}
use Rattle.format.specs.Letter.{letter_bytes}
use Rattle.tray.specs.Tray.{head_for}
use Rattle.shares.specs.Columns.{columns_of, values_from}
use Rattle.shares.specs.ColumnLaws.{values_shares}
use Rattle.shares.specs.LentLaws.{laid_length, laid_within}
use Rattle.cut.specs.Cut.{letter_of, cut_tray}
use Rattle.cut.specs.CutLaws.{CutFacts}
use Rattle.cut.specs.Letters.{letter_from, LettersLent}

-- a letter stands in its slot once a row has been filled with its share words and written
pub letter_written : (O : Ops) (told : Told) (stamp : ℕ) (columns : List ℕ) (l x y : ℕ) (row slot : List ℕ)
    → y ≡ x → row ≡ values_from O columns l told.order.t y 0 → slot ≡ letter_bytes (head_for told stamp l x) row → slot ≡ letter_from O told stamp columns l x
letter_written O told stamp columns l x y row slot same filled written =
    written ∙ ap (letter_bytes (head_for told stamp l x)) (filled ∙ ap (λ (z : ℕ). values_from O columns l told.order.t z 0) same)

-- each keeper's head is lawful
pub lent_lawful : {told : Told} {stamp l bytes : ℕ} {columns : List ℕ} → LettersLent told stamp columns l bytes
    → (k : ℕ) → k < told.order.n → lawful_head (head_for told stamp l (k + 1)) ≡ true
lent_lawful {told} {stamp} {l} lent k h =
    facts_lawful_head (head_for told stamp l (k + 1)) (record { of_terms = lent.of_terms; of_keeper = omega arith })

module _ (told : Told) (stamp : ℕ) (secret random columns : List ℕ) (l : ℕ) (laid : columns ≡ columns_of told.order.t secret random) (long : l ≡ length secret) where
  -- laid out, the letters are lent what they want
  pub laid_lent : (tray : List ℕ) → CutFacts told stamp secret random tray → LettersLent told stamp columns l (length tray)
  laid_lent tray facts =
      record {
        of_terms = rw long facts.of_terms;
        columns_lent = rw long (laid_length facts.of_lent laid);
        columns_within = laid_within facts.of_lent laid;
        tray_lent = facts.of_lent.room_lent;
      }

  -- and they are the cut's
  pub laid_cut : (O : Ops) (left : List ℕ) → length random ≡ length secret * told.order.t
      → left ≡ pieces (λ k. letter_from O told stamp columns l (suc k)) told.order.n → left ≡ cut_tray O told stamp secret random
  unfolding cut_tray letter_of
  laid_cut O left size written =
      written
      ∙ pieces_same _ _ told.order.n
      (λ k h. rw (laid, long) (ap (letter_bytes (head_for told stamp (length secret) (suc k))) (values_shares told.order.t secret random size O (suc k))))
