-- The header words of a head say that head, and words that pass for a header are those of their head.
-- Assumes nothing.
use Rattle.std.specs.Prelude.{ℕ, ◌+◌, ◌*◌, ◌/◌, ◌%◌, ◌<◌, ◌≤◌, ◌≡◌, true, List, ◌++◌, take, drop}
use Rattle.std.proofs.Math.Path.{refl}
use Rattle.std.proofs.Common.{◌∙◌, length-take, length-drop, get_or-drop, length-take-le}
use native.Mathlib.Omega.{arith}
use Rattle.std.proofs.Math.ListN.{length, get_or}
use Rattle.std.proofs.Math.Seq.{get_or-take}
use Rattle.lists.specs.Below.{Below}
use Rattle.lists.specs.Listed.{listed, listed_is}
use Rattle.block.specs.Check.{all_at_most}
use Rattle.block.specs.AtMostLaws.{at_most_below}
use Rattle.header.specs.declared.head.Head.{Head}
use Rattle.header.specs.Head.{lawful_head, head_words, head_of, byte_of}
use Rattle.header.specs.HeadLaws.{HeadFacts, lawful_head_facts, same_head_equal, equal_same_head}
use Rattle.header.specs.Passing.{passed, passes}
use Rattle.header.specs.Rules.{mark_right, place_right, header_right}

-- a number of four bytes, of its quotients by 256 and their remainders
summed : (x q r s a b c d : ℕ) → q * 256 + d ≡ x → r * 256 + c ≡ q → s * 256 + b ≡ r → a ≡ s → a * 16777216 + b * 65536 + c * 256 + d ≡ x
summed x q r s a b c d low second third high = omega arith

four_bytes : (s : ℕ) → s ≤ 4294967295 → byte_of 3 s % 256 * 16777216 + byte_of 2 s % 256 * 65536 + byte_of 1 s % 256 * 256 + byte_of 0 s % 256 ≡ s
four_bytes s h =
    summed s (s / 256) (s / 65536) (s / 16777216) (byte_of 3 s % 256) (byte_of 2 s % 256) (byte_of 1 s % 256) (byte_of 0 s % 256)
    (omega arith)
    (omega arith)
    (omega arith)
    (omega arith)

two_bytes : (l : ℕ) → l ≤ 952 → byte_of 1 l % 256 * 256 + byte_of 0 l % 256 ≡ l
two_bytes l h = omega arith

pub length-head_words : (mark from : ℕ) (h : Head) (p : ℕ) → length (head_words mark from h p) ≡ 16
unfolding head_words
length-head_words mark from h p = refl

pub head_of-words : (mark from : ℕ) (h : Head) (p : ℕ) (rest : List ℕ) → HeadFacts h → head_of (head_words mark from h p ++ rest) ≡ h
unfolding head_of head_words
head_of-words mark from h p rest facts =
    let stamp = four_bytes h.stamp facts.of_terms.stamp_most in
    let length = two_bytes h.length facts.of_terms.length_most in
    λ i. record { told = h.told; keeper = h.keeper; stamp = stamp i; length = length i }

byte_most : (x : ℕ) → x % 256 ≤ 255
byte_most x = omega arith

byte_within : (x : ℕ) → x % 256 ≤ 256
byte_within x = omega arith

module _ (mark from : ℕ) (h : Head) (p : ℕ) where
  pub mark_written : (rest : List ℕ) → mark_right mark (head_words mark from h p ++ rest) ≡ true
  unfolding mark_right head_words
  mark_written rest = simp passes

  -- word 14, among header words and what follows
  pub from_written : (rest : List ℕ) → get_or (head_words mark from h p ++ rest) 14 0 ≡ from
  unfolding head_words
  from_written rest = refl

  bytes_written : (rest : List ℕ) → all_at_most 255 (take 6 (drop 6 (head_words mark from h p ++ rest))) ≡ true
  unfolding all_at_most head_words
  bytes_written rest = simp (passes, byte_most)

  place_written : (most : ℕ) (rest : List ℕ) → from ≤ most → place_right most p (head_words mark from h p ++ rest) ≡ true
  unfolding place_right head_words
  place_written most rest le = simp (passes, le)

  pub header_written : (most : ℕ) (rest : List ℕ) → from ≤ most → lawful_head h ≡ true → header_right most h p (head_words mark from h p ++ rest) ≡ true
  unfolding header_right
  header_written most rest le lawful =
      rw (head_of-words mark from h p rest (lawful_head_facts h lawful), lawful, bytes_written, place_written most rest le, equal_same_head h h refl)

  pub below_head_words : mark ≤ 256 → from ≤ 256 → lawful_head h ≡ true → p < 4 → Below 257 (head_words mark from h p)
  unfolding head_words all_at_most
  below_head_words marked small lawful place =
      let facts = lawful_head_facts h lawful in
      let t : h.told.order.t ≤ 256 = omega arith in
      let f : h.told.order.f ≤ 256 = omega arith in
      let n : h.told.order.n ≤ 256 = omega arith in
      let keeper : h.keeper ≤ 256 = omega arith in
      let key : h.told.key ≤ 256 = omega arith in
      let there : p ≤ 256 = omega arith in
      at_most_below 256 (head_words mark from h p) (simp (passes, byte_within))

pub header_lawful : (most : ℕ) (h : Head) (p : ℕ) (ws : List ℕ) → header_right most h p ws ≡ true → lawful_head h ≡ true
unfolding header_right
header_lawful most h p ws right =
    let lawful : lawful_head (head_of ws) ≡ true = search passed in
    let same : head_of ws ≡ h = search (passed, same_head_equal) in
    rw same at lawful

-- word 14 is no greater than it may be
pub header_from : (most : ℕ) (h : Head) (p : ℕ) (ws : List ℕ) → header_right most h p ws ≡ true → get_or ws 14 0 ≤ most
unfolding header_right place_right
header_from most h p ws right = search passed

four_back : (a b c d : ℕ) → a ≤ 255 → b ≤ 255 → c ≤ 255 → d ≤ 255
    → let s = a % 256 * 16777216 + b % 256 * 65536 + c % 256 * 256 + d % 256 in (a ≡ byte_of 3 s) × (b ≡ byte_of 2 s) × (c ≡ byte_of 1 s) × (d ≡ byte_of 0 s)
four_back a b c d ha hb hc hd = omega arith

two_back : (a b : ℕ) → a ≤ 255 → b ≤ 255 → let l = a % 256 * 256 + b % 256 in (a ≡ byte_of 1 l) × (b ≡ byte_of 0 l)
two_back a b ha hb = omega arith

module _ (mark most p : ℕ) (ws : List ℕ) (size : 16 ≤ length ws) where
  part_most : (top from count : ℕ) → from + count ≤ 16 → all_at_most top (take count (drop from ws)) ≡ true → (i : ℕ) → i < count → get_or ws (from + i) 0 ≤ top
  part_most top from count room most i h =
      let within : i < length (take count (drop from ws)) = rw (length-take, length-drop) (omega arith) in
      omega (arith, rw (get_or-take, get_or-drop) at (at_most_below top (take count (drop from ws)) most i within))

  own_words : mark_right mark ws ≡ true → all_at_most 255 (take 6 (drop 6 ws)) ≡ true → place_right most p ws ≡ true
      → take 16 ws ≡ head_words mark (get_or ws 14 0) (head_of ws) p
  unfolding mark_right place_right head_of head_words listed
  own_words marked bytes place =
      let first : get_or ws 0 0 ≡ mark = search passed in
      let edition : get_or ws 1 0 ≡ 1 = search passed in
      let byte = part_most 255 6 6 (omega arith) bytes in
      let stamp = four_back (get_or ws 6 0) (get_or ws 7 0) (get_or ws 8 0) (get_or ws 9 0) (byte 0 (omega arith)) (byte 1 (omega arith)) (byte 2 (omega arith)) (byte 3 (omega arith)) in
      let length = two_back (get_or ws 10 0) (get_or ws 11 0) (byte 4 (omega arith)) (byte 5 (omega arith)) in
      let there : get_or ws 12 0 ≡ p = search passed in
      let unused : get_or ws 15 0 ≡ 0 = search passed in
      listed_is (λ i. get_or ws i 0) 16 (take 16 ws) (length-take-le 16 ws size) (λ i l. get_or-take 16 ws i 0 l) ∙ cc

-- words that pass are the header words of their head, with the word 14 that is there
pub header_words : (mark most : ℕ) (h : Head) (p : ℕ) (ws : List ℕ) → 16 ≤ length ws → mark_right mark ws ≡ true → header_right most h p ws ≡ true
    → take 16 ws ≡ head_words mark (get_or ws 14 0) h p
unfolding header_right
header_words mark most h p ws size marked right =
    let same : head_of ws ≡ h = search (passed, same_head_equal) in
    let bytes : all_at_most 255 (take 6 (drop 6 ws)) ≡ true = search passed in
    let place : place_right most p ws ≡ true = search passed in
    rw same at (own_words mark most p ws size marked bytes place)
