-- The cutting of a letter into sub-letters.
-- Assumes nothing.
use Rattle.std.specs.Prelude.{ℕ, suc, ◌≡◌, Bool, cond, ◌&&◌, List, Result, Ok, Err, eqb, ltb, length}
use Rattle.lists.specs.Pieces.{pieces}
use Rattle.algebra.specs.Field.{Ops}
use Rattle.block.specs.Check.{all_at_most}
use Rattle.refusals.specs.Numbers.{code}
use Rattle.header.specs.declared.told.Told.{Told}
use Rattle.header.specs.declared.head.Head.{Head}
use Rattle.header.specs.FirstOf.{first_of}
use Rattle.header.specs.Head.{same_head}
use Rattle.header.specs.Order.{lawful_keeper}
use Rattle.format.specs.declared.reader.Fault.{Fault}
use Rattle.format.specs.Reading.{Reading, Good, Bad, read_of, shares_of, place_of}
use Rattle.format.specs.Letter.{slot_bytes}
use Rattle.tray.specs.Tray.{head_for}
use Rattle.shares.specs.Fills.{Fills}
use Rattle.shares.specs.Lent.{lent_right}
use Rattle.shares.specs.Shares.{share_words}
use Rattle.moving.specs.declared.terms.Move.{Move}
use Rattle.moving.specs.Move.{old_told, move_number}

-- new keeper x's sub-letter of an old keeper's share words: "mark 82, the old keeper's number in word 14"
unfoldable pub sub_letter : Ops → Told → ℕ → ℕ → List ℕ → List ℕ → ℕ → List ℕ
sub_letter O told stamp from shares random x =
    slot_bytes 82 from (head_for told stamp (length shares) x) (share_words O told.order.t x shares random)

-- "each cut their share words under a new lawful order with fresh random words, into sub-letters": new keeper 1's in slot 1, and so on
unfoldable pub sub_tray : Ops → Told → ℕ → ℕ → List ℕ → List ℕ → List ℕ
sub_tray O told stamp from shares random = pieces (λ k. sub_letter O told stamp from shares random (suc k)) told.order.n

-- 4, "a lent part has the wrong length": the old letter, random words for as many share words, a tray
abbrev pub cut_lent : Move → List ℕ → List ℕ → List ℕ → Bool
cut_lent m letter random tray =
    eqb (length letter) 2048 && lent_right m.told.order m.length (length random) 2048 (length tray)

-- of what is told and lent: 1, 2, 3, 4, and 5, "a random word above 256"
unfoldable pub cut_refusal : Move → ℕ → List ℕ → List ℕ → List ℕ → ℕ
cut_refusal m keeper letter random tray =
    first_of (move_number m (lawful_keeper m.old keeper)) (cond (cut_lent m letter random tray) (cond (all_at_most 256 random) 0 5) 4)

-- of a good letter: "16 is a good letter .. that differs from what was told", and the old stamp is not told; "20, at the cutting, for a stamp not
-- above the old letter's"
abbrev pub old_number : Move → ℕ → Head → ℕ
old_number m keeper h =
    cond (same_head h (head_for (old_told m) h.stamp m.length keeper)) (cond (ltb h.stamp m.stamp) 0 20) 16

-- of the letter: its own 9..13, then 16, 20
abbrev pub old_letter : Move → ℕ → Reading → ℕ
old_letter m keeper (Good h) = old_number m keeper h
old_letter m keeper (Bad number place) = number

-- the number of a cutting
unfoldable pub move_cut_number : Move → ℕ → List ℕ → List ℕ → List ℕ → ℕ
move_cut_number m keeper letter random tray = first_of (cut_refusal m keeper letter random tray) (old_letter m keeper (read_of letter))

-- the place of a fault in the letter; 0 where the letter is not looked at
unfoldable pub move_cut_place : Move → ℕ → List ℕ → List ℕ → List ℕ → ℕ
move_cut_place m keeper letter random tray = cond (eqb (cut_refusal m keeper letter random tray) 0) (place_of (read_of letter)) 0

-- what a cutting answers, in the page's numbers: one, and the place of a fault in the letter
pub record Cutting : Type 0 where
  pub number : ℕ
  pub place : ℕ

-- 0 and 0 where nothing is refused
abbrev pub cutting_of : Result Unit Fault → Cutting
cutting_of (Ok done) = record { number = 0; place = 0 }
cutting_of (Err fault) = record { number = code fault.refusal; place = fault.place }

-- what a cutting answers and leaves: its number and place, and the tray, which only 0 changes
pub record MoveCutDone (O : Ops) (m : Move) (keeper : ℕ) (letter random tray : List ℕ) (answer : Cutting) (left : List ℕ) : Type 0 where
  pub fills : Fills (move_cut_number m keeper letter random tray) (sub_tray O m.told m.stamp keeper (shares_of letter m.length) random) tray answer.number left
  pub place_is : answer.place ≡ move_cut_place m keeper letter random tray
