-- A number in decimal: its last digit stands behind the digits of its tenth, and a number below a power of ten has few digits.
-- Assumes nothing.
use Rattle.std.specs.Prelude.{ℕ, zero, suc, ◌+◌, ◌/◌, ◌%◌, ◌^◌, ◌<◌, ◌≤◌, ◌≡◌, Bool, true, false, cond, List, [], ◌∷◌, ◌++◌, ltb, length}
use Rattle.std.proofs.Common.{arith, length-append, lt-ltb, le-ltb}
use Rattle.lines.specs.Text.{digits, decimal}

-- the only digit of a number, and the last of several
one_place : (more n : ℕ) → n < 10 → digits (suc more) n ≡ (48 + n) ∷ []
unfolding digits
one_place more n h = rw (lt-ltb n 10 h, digits)

last_place : (more n : ℕ) → 10 ≤ n → digits (suc more) n ≡ digits more (n / 10) ++ ((48 + n % 10) ∷ [])
unfolding digits
last_place more n h = rw (le-ltb n 10 h, digits)

-- more places than it has digits change nothing
digits_same : (k n : ℕ) → n < 10 ^ suc k → digits (suc (suc k)) n ≡ digits (suc k) n
unfolding digits
digits_same zero n h = rw (one_place 0 n (omega arith), one_place 1 n (omega arith))
digits_same (suc k) n h = cc (digits_same k (n / 10) (omega arith))

-- what holds of an only digit, and of a last one behind the others, holds of the digits
by_digits : (P : List ℕ → Type 0) (more n : ℕ) → P ((48 + n) ∷ []) → P (digits more (n / 10) ++ ((48 + n % 10) ∷ [])) → P (digits (suc more) n)
unfolding digits
by_digits P more n only last = picked (ltb n 10)
  where
    picked : (b : Bool) → P (cond b ((48 + n) ∷ []) (digits more (n / 10) ++ ((48 + n % 10) ∷ [])))
    picked true = only
    picked false = last

digits_short : (more k n : ℕ) → n < 10 ^ suc k → length (digits more n) ≤ suc k
unfolding digits
digits_short zero k n h = omega arith
digits_short (suc more) zero n h = rw (one_place more n (omega arith)) (omega arith)
digits_short (suc more) (suc k) n h =
    by_digits (λ xs. length xs ≤ suc (suc k)) more n (omega arith) (rw length-append (omega (arith, digits_short more k (n / 10) (omega arith))))

pub decimal_one : (n : ℕ) → n < 10 → decimal n ≡ (48 + n) ∷ []
decimal_one n h = one_place 19 n h

pub decimal_more : (n : ℕ) → 10 ≤ n → n < 10 ^ 20 → decimal n ≡ decimal (n / 10) ++ ((48 + n % 10) ∷ [])
decimal_more n h small = rw (last_place 19 n h, digits_same 18 (n / 10) (omega arith))

-- a number below 10^(k+1) has k+1 digits at most; every number has one
pub length-decimal : (k n : ℕ) → n < 10 ^ suc k → length (decimal n) ≤ suc k
length-decimal k n h = digits_short 20 k n h
