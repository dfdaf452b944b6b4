-- A word of several numbers, taken apart comma by comma: what the parts passed have told.
-- Assumes nothing.
use Rattle.std.specs.Prelude.{ℕ, zero, suc, ◌+◌, ◌-◌, ◌<◌, ◌≤◌, ◌≡◌, refl, Bool, false, ◌&&◌, cond, List, [], ◌∷◌, ◌++◌, eqb, take, drop, set, Option, Some, None}
use Rattle.std.proofs.Math.Path.{sym, ap, subst}
use Rattle.std.proofs.Common.{◌∙◌, append_assoc, not-suc-le-zero, le_of_suc-le-suc, add-suc, arith, length-drop, length-take-le, drop-drop}
use Rattle.std.proofs.Math.Bool.{true, and-false}
use Rattle.std.proofs.Math.Logic.{by_cases}
use Rattle.std.proofs.Math.Decide.{dec_le}
use Rattle.std.proofs.Math.Numerals.{add-one}
use Rattle.std.proofs.Math.ListN.{length, length-set}
use Rattle.std.proofs.Math.Seq.{take-suc-set}
use borrow.Author.Tests.{eq-eqb, ne_eqb, le-leb, lt-leb}
use Rattle.numerals.specs.Numeral.{is_number, NumberRead}
use Rattle.std.specs.List.{position}
use Rattle.std.proofs.lemmas.Option.{none-some, same_Some}
use Rattle.numerals.specs.Order.{Says}
use Rattle.numerals.specs.OrderLaws.{FirstComma, is_comma, comma_some, comma_none, to_the_end, read_says, not_number}
use Rattle.numerals.specs.Several.{onto, parts, all_numbers, is_list, listed, ListRead}
use Rattle.numerals.specs.declared.list.Part.{Part}

-- the same comma, without the byte in front
later : {x at : ℕ} {xs : List ℕ} → FirstComma (x ∷ xs) (suc at) → FirstComma xs at
later h =
    record {
      within = le_of_suc-le-suc h.within;
      before = λ k l. h.before (suc k) (omega arith);
      found = λ l. h.found (omega arith);
    }

-- a word with a comma: its first part, and those of what stands behind it
split_more : (word : List ℕ) (at : ℕ) → FirstComma word at → at < length word → parts word ≡ take at word ∷ parts (drop (suc at) word)
unfolding parts onto
split_more [] at h l = absurd (not-suc-le-zero l)
split_more (x ∷ xs) zero h l = rw (eq-eqb x 44 (h.found l))
split_more (x ∷ xs) (suc at) h l = rw (ne_eqb x 44 (h.before 0 (omega arith)), split_more xs at (later h) (le_of_suc-le-suc l))

-- a word with none is its only part
split_last : (word : List ℕ) (at : ℕ) → FirstComma word at → at ≡ length word → parts word ≡ take at word ∷ []
unfolding parts onto
split_last [] zero h e = refl
split_last [] (suc at) h e = absurd (not-suc-le-zero h.within)
split_last (x ∷ xs) zero h e = absurd (omega arith)
split_last (x ∷ xs) (suc at) h e = rw (ne_eqb x 44 (h.before 0 (omega arith)), split_last xs at (later h) (omega arith))

-- the part that begins at a place, and what stands behind it
pub record PartAt (word : List ℕ) (from : ℕ) (end : ℕ) : Type 0 where
  pub after : from ≤ end
  pub within : end ≤ length word
  pub more : end < length word → parts (drop from word) ≡ take (end - from) (drop from word) ∷ parts (drop (end + 1) word)
  pub last : end ≡ length word → parts (drop from word) ≡ take (end - from) (drop from word) ∷ []

pub part_cut : {word : List ℕ} {from at end : ℕ} → from ≤ length word → FirstComma (drop from word) at → end ≡ from + at → PartAt word from end
part_cut {word} {from} {at} {end} l h e =
    let size = length-drop from word in
    let long : end - from ≡ at = omega arith in
    record {
      after = omega arith;
      within = omega (arith, h.within);
      more = λ g. rw (long, e, add-one, ← add-suc, ← drop-drop) (split_more (drop from word) at h (omega arith));
      last = λ g. rw long (split_last (drop from word) at h (omega arith));
    }

-- as a search from the place on finds its end
pub part_to_comma : (word : List ℕ) (from at : ℕ) → from ≤ length word → position is_comma (take (length word - from) (drop from word)) ≡ Some at
    → PartAt word from (from + at)
part_to_comma word from at l e = part_cut l (comma_some (rw (to_the_end from word) at e)) refl

pub part_to_end : (word : List ℕ) (from : ℕ) → from ≤ length word → position is_comma (take (length word - from) (drop from word)) ≡ None
    → PartAt word from (length word)
part_to_end word from l e =
    let size = length-drop from word in
    part_cut l (comma_none (rw (to_the_end from word) at e)) (omega arith)

-- a part is read as the number that it says, or as none
pub record PartRead (word : List ℕ) (from : ℕ) (r : Option Part) : Type 0 where
  pub some : (p : Part) → r ≡ Some p → PartAt word from p.end × NumberRead (take (p.end - from) (drop from word)) (Some p.value)
  pub none : r ≡ None → (end : ℕ) × PartAt word from end × NumberRead (take (end - from) (drop from word)) None

pub part_some : {word : List ℕ} {from end value : ℕ} → PartAt word from end → NumberRead (take (end - from) (drop from word)) (Some value)
    → PartRead word from (Some (record { value = value; end = end }))
part_some {word} {from} {end} {value} part read =
    record {
      some = λ p e.
          subst (λ (q : Part). PartAt word from q.end × NumberRead (take (q.end - from) (drop from word)) (Some q.value)) (same_Some _ _ e) (part, read);
      none = λ e. absurd (none-some _ (sym e));
    }

pub part_none : {word : List ℕ} {from end : ℕ} → PartAt word from end → NumberRead (take (end - from) (drop from word)) None → PartRead word from None
part_none {end = end} part read = record { some = λ p e. absurd (none-some _ e); none = λ e. (end, part, read) }

pub part_of : {word : List ℕ} {from : ℕ} {p : Part} → PartRead word from (Some p) → PartAt word from p.end
part_of {p = p} read = (read.some p refl).0

-- there is always a part
onto_some : (b : Bool) (x : ℕ) (ps : List (List ℕ)) → 1 ≤ length (cond b ([] ∷ ps) (onto x ps))
unfolding onto
onto_some true x ps = omega arith
onto_some false x [] = omega arith
onto_some false x (p ∷ ps) = omega arith

parts_some : (word : List ℕ) → 1 ≤ length (parts word)
unfolding parts
parts_some [] = omega arith
parts_some (x ∷ xs) = onto_some (eqb x 44) x (parts xs)

-- the parts in front of a place are numbers, and stand in the room
pub record Going (word room : List ℕ) (from count : ℕ) : Type 0 where
  pub within : from ≤ length word
  pub small : count ≤ length room
  pub passed : all_numbers (parts word) ≡ all_numbers (parts (drop from word))
  pub many : length (parts word) ≡ count + length (parts (drop from word))
  pub told : listed word ≡ take count room ++ listed (drop from word)

pub going_none : (word room : List ℕ) → Going word room 0 0
going_none word room = record { within = omega arith; small = omega arith; passed = refl; many = omega arith; told = refl }

-- a word that is no list is read as none
pub list_none : {word room : List ℕ} {most : ℕ} → is_list most word ≡ false → ListRead word most room None
list_none e = record { many = rw e; values = rw e; within = omega arith; front = refl }

module _ {word room : List ℕ} {from count : ℕ} (h : Going word room from count) where
  -- more parts than there is room for
  pub list_full : length room ≤ count → is_list (length room) word ≡ false
  list_full l = rw (lt-leb (length (parts word)) (length room) (omega (arith, h.many, parts_some (drop from word))))

  -- the next part, with whatever follows it
  first_of : (end : ℕ) {ps : List (List ℕ)} → parts (drop from word) ≡ take (end - from) (drop from word) ∷ ps
      → all_numbers (parts word) ≡ (is_number (take (end - from) (drop from word)) && all_numbers ps)
  unfolding all_numbers
  first_of end e = h.passed ∙ rw e

  -- a part that is no number
  pub list_wrong : (most : ℕ) → PartRead word from None → is_list most word ≡ false
  list_wrong most read =
      let end = (read.none refl).0 in
      let part = (read.none refl).1 in
      let wrong : is_number (take (end - from) (drop from word)) ≡ false = not_number (read.none refl).2 in
      let none : all_numbers (parts word) ≡ false =
      by_cases (dec_le (length word) end) (λ l. first_of end (part.last (omega (arith, part.within))) ∙ rw wrong) (λ l. first_of end (part.more (omega arith)) ∙ rw wrong) in
      rw (none, and-false)

  module _ {p : Part} (read : PartRead word from (Some p)) (l : count < length room) where
    number : Says (take (p.end - from) (drop from word)) p.value
    number = read_says (read.some p refl).1

    -- one number more
    pub going_more : p.end < length word → Going word (set room count p.value) (p.end + 1) (count + 1)
    going_more g =
        let e = (part_of read).more g in
        record {
          within = omega arith;
          small = rw length-set (omega arith);
          passed = first_of p.end e ∙ rw number.0;
          many = omega (arith, h.many, ap length e);
          told = h.told ∙ rw (e, add-one count, take-suc-set room count p.value l, number.1, append_assoc);
        }

    -- the last one
    pub list_last : p.end ≡ length word → ListRead word (length room) (set room count p.value) (Some (count + 1))
    unfolding all_numbers
    list_last g =
        let e = (part_of read).last g in
        let many : length (parts word) ≡ count + 1 = omega (arith, h.many, ap length e) in
        let all : all_numbers (parts word) ≡ true = first_of p.end e ∙ rw number.0 in
        let fits : count + 1 ≤ length (set room count p.value) = rw length-set (omega arith) in
        let some : is_list (length room) word ≡ true = rw (all, le-leb (length (parts word)) (length room) (omega arith)) in
        record {
          many = rw (some, many);
          values = rw (some, h.told, e, add-one count, take-suc-set room count p.value l, number.1);
          within = fits;
          front = sym (length-take-le (count + 1) (set room count p.value) fits);
        }
