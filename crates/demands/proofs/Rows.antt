-- What stands in the rows of a cut of words: the page's polynomials, and what the letters of the same cut hold.
-- Assumes nothing.
use Rattle.std.specs.Prelude.{ℕ, ◌*◌, ◌<◌, ◌≡◌, true, List, ◌∷◌, length, get_or, take, drop}
use Rattle.std.proofs.Common.{ap, sym, ◌∙◌}
use Rattle.algebra.specs.Field.{Ops}
use Rattle.algebra.specs.Poly.{eval}
use Rattle.header.specs.declared.order.Order.{Order}
use Rattle.header.specs.declared.told.Told.{Told}
use Rattle.header.specs.Order.{lawful_keeper}
use Rattle.header.specs.OrderLaws.{lawful_keeper_facts}
use Rattle.format.specs.Letter.{letter_bytes}
use Rattle.tray.specs.Tray.{head_for, slot_of}
use Rattle.shares.specs.ShareWords.{get_d_share_words}
use Rattle.shares.specs.Words.{share_rows, row_of}
use Rattle.shares.specs.WordsLaws.{row_shares}
use Rattle.cut.specs.Cut.{letter_of, cut_tray}
use Rattle.cut.specs.LetterField.{LetterField}
use Rattle.cut.specs.OneCut.{OneCut, slot-cut}

-- "For byte i the coefficients of x, x^2, .. x^t are words i*t .. i*t+t-1, and the constant is the byte. Keeper x's share word i is the
-- polynomial's value at x." Of any constants.
pub row_word_lem : (O : Ops) (order : Order) (constants random : List ℕ) (x : ℕ) → lawful_keeper order x ≡ true → (i : ℕ) → i < length constants
    → get_or (row_of (share_rows O order constants random) (length constants) x) i 0 ≡ eval O (get_or constants i 0 ∷ take order.t (drop (i * order.t) random)) x
row_word_lem O order constants random x k i h =
    ap (λ (row : List ℕ). get_or row i 0) (row_shares O order constants random x (lawful_keeper_facts order x k)) ∙ get_d_share_words O order.t x constants random i h

-- cut into letters, the same constants give each keeper the letter of its row
pub letter_row : {O : Ops} → LetterField O → {told : Told} {stamp : ℕ} {constants random : List ℕ} → OneCut O told stamp constants random
    → (x : ℕ) → lawful_keeper told.order x ≡ true
    → slot_of (cut_tray O told stamp constants random) x
    ≡ letter_bytes (head_for told stamp (length constants) x) (row_of (share_rows O told.order constants random) (length constants) x)
unfolding letter_of
letter_row {O} F {told} {stamp} {constants} {random} C x k =
    let facts = lawful_keeper_facts told.order x k in
    slot-cut F C x facts ∙ ap (letter_bytes (head_for told stamp (length constants) x)) (sym (row_shares O told.order constants random x facts))
