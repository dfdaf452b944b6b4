-- `agree::agreement::narrowed` meets its contract: a search from the first keeper on, with as many to skip as there are past need, misses nothing.
-- Assumes nothing.
use Rattle.std.proofs.Common.{ℕ, ◌+◌, ◌-◌, ◌*◌, ◌≡◌, ap, ◌∙◌, List, arith, length, get_or}
use Rattle.std.specs.Int.Count.{ones}
use Rattle.agree.specs.Rows.{Rows}
use Rattle.lists.specs.Below.{Below, below_any}
use Rattle.lists.specs.From.{from, from_in}
use Rattle.lists.specs.KeeperSetLaws.{ones-member}
use Rattle.lists.specs.Listed.{listed, length-listed, get_d_listed, below_listed}
use Rattle.lists.specs.Member.{In}
use Rattle.search.specs.Search.{Words, word}
use Rattle.search.specs.SearchLaws.{search_whole, narrows_same}
use Rattle.weigh.specs.Weigh.{row_word}
use mathlib.Core.Path.{subst⁻¹}
use Rattle.agree.proofs.agreement.narrowed.Goals as goal

-- a column of the rows
module _ (rows : List ℕ) (i : ℕ) (words : List ℕ) (e : words ≡ listed (λ k. get_or rows (952 * k + i) 0) 16) where
  column_words : Rows rows → Words words
  column_words r = record {
    size = ap length e ∙ length-listed (λ k. get_or rows (952 * k + i) 0) 16;
    below = subst⁻¹ (Below 257) e (below_listed 257 (λ k. get_or rows (952 * k + i) 0) 16 (λ k h. below_any 257 rows (omega arith) r.words (952 * k + i)));
  }

  column_word : (x : ℕ) → In x (from 1 16) → word words x ≡ row_word rows x i
  column_word x m =
      let b = from_in 1 16 x m in
      ap (λ (w : List ℕ). get_or w (x - 1) 0) e ∙ get_d_listed (λ k. get_or rows (952 * k + i) 0) 16 (x - 1) (omega arith)

pub invariant_of-search-clause-whole : goal.invariant_of-search-clause-whole
invariant_of-search-clause-whole c = column_words c.args.rows.now c.args.i c.column-words.result c.column-words.ensures c.requires.rows

pub past-requires : goal.past-requires
unfolding ones
past-requires c = record { small = omega arith; enough = omega arith; before = omega arith; within = omega arith; lacks = omega arith }

pub returns-clause-narrows : goal.returns-clause-narrows
returns-clause-narrows c =
    narrows_same _ (column_word c.args.rows.now c.args.i c.column-words.result c.column-words.ensures)
    (search_whole (omega (arith, ones-member 16 c.args.set.bits (omega arith))) c.past.ensures.searched)
