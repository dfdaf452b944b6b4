-- What changed between two trays of one order.
-- Assumes nothing.
use Rattle.std.specs.Prelude.{ℕ, ◌+◌, ◌*◌, ◌/◌, ◌%◌, ◌≤◌, ◌<◌, ◌≡◌, Bool, not, cond, ◌&&◌, Result, Ok, Err, List, [], ◌∷◌, ◌++◌, map, eqb, length, get_or, drop}
use Rattle.lists.specs.Chosen.{chosen}
use Rattle.lists.specs.From.{from}
use Rattle.refusals.specs.Numbers.{code}
use Rattle.header.specs.declared.order.Order.{Order}
use Rattle.header.specs.Order.{lawful_order}
use Rattle.format.specs.Reading.{block_words}
use Rattle.tray.specs.Tray.{slot_of}
use Rattle.compare.specs.declared.Unlisted.{Unlisted}
use Rattle.compare.specs.declared.Unlisted.TheVariants.{Refused, TooMany}

-- "places (slot, block, word)": place i, counted from 0 in rising order, lies in this slot. A slot has 1,024 words, and the first is slot 1
abbrev pub slot_at : ℕ → ℕ
slot_at i = i / 1024 + 1

-- place i lies in this block of its slot. A block has 256 words, and the first is block 0
abbrev pub block_at : ℕ → ℕ
block_at i = i / 256 % 4

-- place i is this word of its block. The first is word 0
abbrev pub word_at : ℕ → ℕ
word_at i = i % 256

-- the word of a tray at place i, a "raw 16-bit number"
unfoldable pub raw_word : List ℕ → ℕ → ℕ
raw_word tray i = get_or (block_words (slot_of tray (slot_at i)) (block_at i)) (word_at i) 0

-- whether two trays differ at place i
unfoldable pub differs : List ℕ → List ℕ → ℕ → Bool
differs first second i = not (eqb (raw_word first i) (raw_word second i))

-- a place "with both words"
unfoldable pub difference : List ℕ → List ℕ → ℕ → List ℕ
difference first second i = slot_at i ∷ block_at i ∷ word_at i ∷ raw_word first i ∷ raw_word second i ∷ []

-- "a list of places (slot, block, word) with both words as raw 16-bit numbers, once each and in rising order"
unfoldable pub differences : Order → List ℕ → List ℕ → List (List ℕ)
differences order first second = map (difference first second) (chosen (differs first second) (from 0 (1024 * order.n)))

-- the refusals that need no word: 1, 4
unfoldable pub compare_refusal : Order → List ℕ → List ℕ → ℕ
compare_refusal order first second =
    cond (lawful_order order) (cond (eqb (length first) (2048 * order.n) && eqb (length second) (2048 * order.n)) 0 4) 1

-- what a comparison answers, in the page's numbers: one, and how many differences there are
pub record Compared : Type 0 where
  pub number : ℕ
  pub count : ℕ

-- the number, and how many differences there are
abbrev pub compared : ℕ → ℕ → Compared
compared number count = record { number = number; count = count }

-- the Rust answer as that
abbrev pub compared_of : Result ℕ Unlisted → Compared
compared_of (Ok count) = compared 0 count
compared_of (Err (Refused refusal)) = compared (code refusal) 0
compared_of (Err (TooMany count)) = compared 18 count

-- The promise: what is answered, and the list left. "new 18 exactly when the lent list has fewer places than differences"; "The number of differences is
-- in the result, with 18 too; list places past it stay unchanged."
pub data CompareDone (order : Order) (first second : List ℕ) (list : List (List ℕ)) : Compared → List (List ℕ) → Type 0 where
  refused : (compare_refusal order first second ≡ 0 → ⊥) → CompareDone order first second list (compared (compare_refusal order first second) 0) list
  short : compare_refusal order first second ≡ 0 → length list < length (differences order first second)
      → CompareDone order first second list (compared 18 (length (differences order first second))) list
  told : compare_refusal order first second ≡ 0 → length (differences order first second) ≤ length list
      → CompareDone order first second list (compared 0 (length (differences order first second)))
      (differences order first second ++ drop (length (differences order first second)) list)
