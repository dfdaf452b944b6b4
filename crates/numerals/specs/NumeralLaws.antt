-- A word read as a number, digit by digit: what the digits passed have told.
-- Assumes nothing.
use Rattle.std.specs.Prelude.{ℕ, ◌+◌, ◌*◌, ◌-◌, ◌^◌, ◌<◌, ◌≤◌, ◌≡◌, refl, true, false, ◌&&◌, List, leb, length, get_or, drop, Some, None, Result, Ok, Err}
use Rattle.std.specs.Result.{OkIff, result_ok}
use Rattle.std.proofs.Common.{◌∙◌, arith, le-leb, leb-true}
use Rattle.std.proofs.Math.Bool.{and-false, and-eq-true_iff}
use Rattle.std.proofs.Math.Nat.{pow-le-pow_right}
use Rattle.std.proofs.Math.Numerals.{add-one}
use Rattle.std.proofs.Math.ListN.{drop_of_length-le}
use Rattle.std.proofs.Math.Seq.{drop-cons}
use Rattle.std.proofs.lemmas.Bool.{lt-leb}
use Rattle.numerals.specs.Numeral.{digit, all_digits, said_after, said, is_number, NumberRead}

-- how long a word is that is a number
pub length_wrong : (word : List ℕ) → (leb 1 (length word) && leb (length word) 10) ≡ false → is_number word ≡ false
length_wrong word e = rw e

pub length_right : (count : ℕ) → (leb 1 count && leb count 10) ≡ true → count ≤ 10
length_right count e = leb-true count 10 ((and-eq-true_iff (leb 1 count) (leb count 10)).0 e).1

pub read_none : {word : List ℕ} → is_number word ≡ false → NumberRead word None
read_none e = record { read = rw e }

-- the first i bytes are digits, and say the value
pub record Reading (word : List ℕ) (i value : ℕ) : Type 0 where
  pub within : i ≤ length word
  pub passed : all_digits word ≡ all_digits (drop i word)
  pub told : said word ≡ said_after value (drop i word)
  pub small : value < 10 ^ i

pub reading_none : (word : List ℕ) → Reading word 0 0
reading_none word = record { within = omega arith; passed = refl; told = refl; small = omega arith }

pub digit_bounds : (byte : ℕ) → digit byte ≡ true → (48 ≤ byte) × (byte ≤ 57)
digit_bounds byte e =
    let both = (and-eq-true_iff (leb 48 byte) (leb byte 57)).0 e in
    (leb-true 48 byte both.0, leb-true byte 57 both.1)

module _ {word : List ℕ} {i value : ℕ} (h : Reading word i value) where
  -- one digit more
  pub reading_more : {next : ℕ} → i < length word → digit (get_or word i 0) ≡ true → next ≡ value * 10 + (get_or word i 0 - 48) → Reading word (i + 1) next
  unfolding all_digits said_after
  reading_more {next} l d e =
      let bounds = digit_bounds (get_or word i 0) d in
      rw add-one
      (record {
        within = omega arith;
        passed = h.passed ∙ rw (drop-cons word i 0 l, d);
        told = h.told ∙ rw (drop-cons word i 0 l, e);
        small = omega (arith, h.small);
      })

  -- a byte that is no digit
  pub reading_stopped : i < length word → digit (get_or word i 0) ≡ false → is_number word ≡ false
  unfolding all_digits
  reading_stopped l d = rw (h.passed, drop-cons word i 0 l, d, and-false)

  -- after less than ten digits there is room for one more
  pub reading_room : i < 10 → value < 10 ^ 9
  reading_room l = omega (arith, h.small, pow-le-pow_right {n = 10} (omega arith) {i = i} {j = 9} (omega arith))

  all_digits_lem : length word ≤ i → all_digits word ≡ true
  unfolding all_digits
  all_digits_lem l = rw (h.passed, drop_of_length-le word {i = i} l)

  all_said : length word ≤ i → said word ≡ value
  unfolding said_after
  all_said l = rw (h.told, drop_of_length-le word {i = i} l)

  -- at the end: a number that is too large, and one that is right
  pub reading_large : length word ≤ i → 4294967295 < value → is_number word ≡ false
  reading_large l g = rw (all_digits_lem l, all_said l, lt-leb value 4294967295 g, and-false)

  pub reading_right : length word ≤ i → (1 ≤ length word) × (length word ≤ 10) → value ≤ 4294967295 → is_number word ≡ true
  reading_right l fits g = rw (le-leb 1 (length word) fits.0, le-leb (length word) 10 fits.1, all_digits_lem l, all_said l, le-leb value 4294967295 g)

  pub read_some : length word ≤ i → is_number word ≡ true → NumberRead word (Some value)
  read_some l e = record { read = rw (e, all_said l) }

  -- and either of them, as it fits in 32 bits
  pub read_fitting : {E : Type 0} (r : Result ℕ E) → length word ≤ i → (1 ≤ length word) × (length word ≤ 10) → OkIff r (value < 4294967296) value
      → NumberRead word (result_ok r)
  read_fitting (Ok x) l fits ok = rw ok.1 (read_some l (reading_right l fits (omega (arith, ok.0))))
  read_fitting (Err x) l fits large = read_none (reading_large l (omega (arith, large)))
