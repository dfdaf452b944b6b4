-- A block as written has nothing wrong with it, and a block with nothing wrong is as written, with the word 14 that is there.
-- Assumes nothing.
use Rattle.std.specs.Prelude.{ℕ, ◌<◌, ◌≤◌, ◌≡◌, true, cond, List, [], ◌∷◌, ◌++◌, get_or, take, drop}
use Rattle.std.proofs.Common.{◌∙◌, append_assoc, arith, length-append, take-add}
use Rattle.std.proofs.Math.ListN.{length}
use Rattle.lists.specs.Below.{Below, below_append}
use Rattle.block.specs.Check.{plain_check, weighted_check, sealed, block_number}
use Rattle.block.specs.CheckLaws.{number_sealed, number_zero_below, number_zero-sealed}
use Rattle.header.specs.declared.head.Head.{Head}
use Rattle.header.specs.FirstOf.{both_right}
use Rattle.header.specs.Head.{lawful_head, head_words}
use Rattle.header.specs.Passing.{passing}
use Rattle.header.specs.Rules.{mark_right, header_right}
use Rattle.header.specs.HeaderLaws.{length-head_words, mark_written, header_written, below_head_words, header_lawful, header_from, header_words}
use Rattle.format.specs.Reading.{letter_block_number}

pub sealed-append : (xs ys : List ℕ) → sealed (xs ++ ys) ≡ xs ++ (ys ++ (plain_check (xs ++ ys) ∷ weighted_check (xs ++ ys) ∷ []))
unfolding sealed
sealed-append xs ys = append_assoc xs ys (plain_check (xs ++ ys) ∷ weighted_check (xs ++ ys) ∷ [])

module _ (mark : ℕ) (h : Head) (p : ℕ) where
  pub below_block_words : (from : ℕ) (shares : List ℕ) → mark ≤ 256 → from ≤ 256 → lawful_head h ≡ true → p < 4 → Below 257 shares
      → Below 257 (head_words mark from h p ++ shares)
  below_block_words from shares marked small lawful place below =
      below_append 257 (head_words mark from h p) shares (below_head_words mark from h p marked small lawful place) below

  pub block_written : (most from : ℕ) (shares : List ℕ) → from ≤ most → lawful_head h ≡ true → length shares ≡ 238 → Below 257 (head_words mark from h p ++ shares)
      → letter_block_number mark most h p (sealed (head_words mark from h p ++ shares)) ≡ 0
  unfolding letter_block_number
  block_written most from shares le lawful size below =
      let long : length (head_words mark from h p ++ shares) ≡ 254 = simp (length-append, length-head_words, size) in
      rw (number_sealed (head_words mark from h p ++ shares) long below, sealed-append, mark_written, header_written mark from h p most _ le lawful)

  pub record BlockRead (most : ℕ) (ws : List ℕ) : Type 0 where
    pub lawful : lawful_head h ≡ true
    pub within : Below 257 ws
    pub small : get_or ws 14 0 ≤ most
    pub words : ws ≡ sealed (head_words mark (get_or ws 14 0) h p ++ take 238 (drop 16 ws))

  pub block_read : (most : ℕ) (ws : List ℕ) → length ws ≡ 256 → letter_block_number mark most h p ws ≡ 0 → BlockRead most ws
  unfolding letter_block_number
  block_read most ws size good =
      let checked = both_right (block_number ws) _ good in
      let headed = both_right (cond (mark_right mark ws) 0 11) _ checked.1 in
      let marked = (passing (mark_right mark ws) 0 10 headed.0).0 in
      let header = (passing (header_right most h p ws) 0 11 headed.1).0 in
      record {
        lawful = header_lawful most h p ws header;
        within = number_zero_below ws checked.0;
        small = header_from most h p ws header;
        words = number_zero-sealed ws size checked.0 ∙ rw (take-add 16 238 ws, header_words mark most h p ws (omega arith) marked header);
      }
