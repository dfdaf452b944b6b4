-- The letters of columns: what the cut writes once the secret and the random words are laid out.
-- Assumes nothing.
use Rattle.std.specs.Prelude.{ℕ, ◌+◌, ◌*◌, ◌≡◌, List, length}
use Rattle.lists.specs.Below.{Below}
use Rattle.algebra.specs.Field.{Ops}
use Rattle.header.specs.declared.told.Told.{Told}
use Rattle.header.specs.TermsLaws.{TermsFacts}
use Rattle.format.specs.Letter.{letter_bytes}
use Rattle.tray.specs.Tray.{head_for}
use Rattle.shares.specs.Columns.{values_from}

-- keeper x's letter, of columns of l words
abbrev pub letter_from : Ops → Told → ℕ → List ℕ → ℕ → ℕ → List ℕ
letter_from O told stamp columns l x = letter_bytes (head_for told stamp l x) (values_from O columns l told.order.t x 0)

-- what is lent to write them: columns, a row of l words to work in, and a tray of so many bytes
pub record LettersLent (told : Told) (stamp : ℕ) (columns : List ℕ) (l bytes : ℕ) : Type 0 where
  pub of_terms : TermsFacts told stamp l
  pub columns_lent : length columns ≡ l * (told.order.t + 1)
  pub columns_within : Below 257 columns
  pub tray_lent : bytes ≡ 2048 * told.order.n
