-- The cut of a secret into letters.
-- Assumes nothing.
use Rattle.std.specs.Prelude.{ℕ, suc, List, length}
use Rattle.lists.specs.Pieces.{pieces}
use Rattle.algebra.specs.Field.{Ops}
use Rattle.header.specs.declared.told.Told.{Told}
use Rattle.header.specs.FirstOf.{first_of}
use Rattle.header.specs.Terms.{terms_number}
use Rattle.format.specs.Letter.{letter_bytes}
use Rattle.tray.specs.Tray.{head_for}
use Rattle.shares.specs.Fills.{Fills}
use Rattle.shares.specs.Lent.{lent_number}
use Rattle.shares.specs.Shares.{share_words}

-- keeper x's letter
unfoldable pub letter_of : Ops → Told → ℕ → List ℕ → List ℕ → ℕ → List ℕ
letter_of O told stamp secret random x = letter_bytes (head_for told stamp (length secret) x) (share_words O told.order.t x secret random)

-- the tray: keeper 1's letter in slot 1, and so on to n
unfoldable pub cut_tray : Ops → Told → ℕ → List ℕ → List ℕ → List ℕ
cut_tray O told stamp secret random = pieces (λ k. letter_of O told stamp secret random (suc k)) told.order.n

-- "Lent: order, stamp, L secret bytes, exactly L*t random words, a tray to fill", and "the key number beside the order". "Refusals: 1, 2, 3, 4,
-- 5.": of what is told, then of what is lent
unfoldable pub cut_number : Told → ℕ → List ℕ → List ℕ → List ℕ → ℕ
cut_number told stamp secret random tray = first_of (terms_number told stamp (length secret)) (lent_number told.order secret random 2048 tray)

-- what the cut answers and leaves: its number, and the tray, which only 0 changes
abbrev pub CutDone : Ops → Told → ℕ → List ℕ → List ℕ → List ℕ → ℕ → List ℕ → Type 0
CutDone O told stamp secret random tray number left =
    Fills (cut_number told stamp secret random tray) (cut_tray O told stamp secret random) tray number left
