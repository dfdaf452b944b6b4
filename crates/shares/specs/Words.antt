-- The cut of a list of words: "We want to cut a keeper's share word in its turn, and that may be 256."
-- Assumes nothing.
use Rattle.std.specs.Prelude.{ℕ, suc, ◌-◌, ◌*◌, cond, List, length, take, drop}
use Rattle.lists.specs.Pieces.{pieces}
use Rattle.algebra.specs.Field.{Ops}
use Rattle.header.specs.declared.order.Order.{Order}
use Rattle.header.specs.Order.{lawful_order}
use Rattle.header.specs.Terms.{lawful_length}
use Rattle.shares.specs.Fills.{Fills}
use Rattle.shares.specs.Lent.{lent_number}
use Rattle.shares.specs.Shares.{share_words}

-- the rows of keepers 1..n, end to end: each keeper's share words, of these constants
unfoldable pub share_rows : Ops → Order → List ℕ → List ℕ → List ℕ
share_rows O order constants random = pieces (λ k. share_words O order.t (suc k) constants random) order.n

-- keeper x's row, of rows of l words
unfoldable pub row_of : List ℕ → ℕ → ℕ → List ℕ
row_of rows l x = take l (drop (l * (x - 1)) rows)

-- 1, "order not lawful"; 2, "L outside 1..952", L being how many words are cut; then of what is lent, where each keeper has room for L words
unfoldable pub words_number : Order → List ℕ → List ℕ → List ℕ → ℕ
words_number order constants random rows =
    cond (lawful_order order) (cond (lawful_length (length constants)) (lent_number order constants random (length constants) rows) 2) 1

-- what the cut of words answers and leaves: its number, and the rows, which only 0 changes
abbrev pub WordsDone : Ops → Order → List ℕ → List ℕ → List ℕ → ℕ → List ℕ → Type 0
WordsDone O order constants random rows number left =
    Fills (words_number order constants random rows) (share_rows O order constants random) rows number left
