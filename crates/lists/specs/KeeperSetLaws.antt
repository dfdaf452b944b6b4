-- A set of keepers as a number: who is of it, how many they are, and how it grows in rising order.
-- Assumes nothing.
use Rattle.std.specs.Prelude.{ℕ, zero, suc, ◌+◌, ◌-◌, ◌*◌, ◌/◌, ◌%◌, ◌^◌, ◌≤◌, ◌<◌, ◌≡◌, refl, Bool, true, false, eqb}
use Rattle.std.proofs.Common.{sym, subst, ap, ap₂, ◌∙◌, true≢false, ⊎_elim, eq-or-lt_of_le, lt_of_lt_of_le, le_of_suc-le-suc, not-suc-le-zero, mul_assoc, pow-suc, div-lt_iff_lt-mul, mod-lt, add-one, sub-one, arith, pow-add, pow_mono, pow_pos}
use Rattle.std.proofs.Math.Logic.{by_cases}
use Rattle.std.proofs.Math.Nat.{add_comm, div-eq_of_lt, mul-add-div_right, mul-add-mod_self_right}
use Rattle.std.proofs.Math.Decide.{dec_le}
use lib.Count.{ones, ones_cat}
use Rattle.std.proofs.Math.Pow.{high, split}
use Rattle.lists.specs.Count.{bit, count}
use Rattle.lists.specs.From.{from}
use Rattle.lists.specs.KeeperSet.{keeper_set, member}
use Rattle.lists.specs.Rising.{count-suc}

bit-add_lt : (b : Bool) (p r : ℕ) → r < p → bit b * p + r < 2 * p
bit-add_lt true p r h = omega arith
bit-add_lt false p r h = omega arith

pub keeper_set_lt : (test : ℕ → Bool) (n : ℕ) → keeper_set test n < 2 ^ n
unfolding keeper_set
keeper_set_lt test zero = omega arith
keeper_set_lt test (suc k) = omega (arith, bit-add_lt (test (suc k)) (2 ^ k) (keeper_set test k) (keeper_set_lt test k))

ones_bit : (b : Bool) → ones (bit b) ≡ bit b
unfolding ones lib.Count.ones_in
ones_bit true = refl
ones_bit false = refl

-- "The size of the agreement is the number of ones in that set."
pub ones-keeper_set : (test : ℕ → Bool) (n : ℕ) → ones (keeper_set test n) ≡ count test (from 1 n)
unfolding keeper_set count from ones
ones-keeper_set test zero = refl
ones-keeper_set test (suc k) =
    ones_cat k (bit (test (suc k))) (keeper_set test k) (keeper_set_lt test k)
    ∙ ap₂ ◌+◌ (ones_bit (test (suc k))) (ones-keeper_set test k)
    ∙ sym (count-suc test k)

-- below place n a number's digits are those of what stands below n
digit_low : (b r k d : ℕ) → (b * 2 ^ (suc d + k) + r) / 2 ^ k % 2 ≡ r / 2 ^ k % 2
digit_low b r k d =
    let up : b * 2 ^ (suc d + k) + r ≡ b * 2 ^ suc d * 2 ^ k + r = rw (pow-add 2 (suc d) k, mul_assoc) in
    let two : b * 2 ^ suc d ≡ b * 2 ^ d * 2 = rw (pow-suc, mul_assoc) in
    rw (up, mul-add-div_right (pow_pos k) (b * 2 ^ suc d) r, two) (mul-add-mod_self_right (b * 2 ^ d) 2 (r / 2 ^ k))

member-suc : (set k : ℕ) → member set (suc k) ≡ eqb (set / 2 ^ k % 2) 1
member-suc set k = ap (λ (i : ℕ). eqb (set / 2 ^ i % 2) 1) (sub-one (suc k))

bit_test : (b : Bool) → eqb (bit b % 2) 1 ≡ b
bit_test true = refl
bit_test false = refl

module _ (b : Bool) (r n : ℕ) (h : r < 2 ^ n) where
  member_top : member (bit b * 2 ^ n + r) (suc n) ≡ b
  member_top = member-suc (bit b * 2 ^ n + r) n ∙ ap (λ (i : ℕ). eqb (i % 2) 1) (high (bit b) n h) ∙ bit_test b

  member_low : (k : ℕ) → k < n → member (bit b * 2 ^ n + r) (suc k) ≡ member r (suc k)
  member_low k l =
      let d = n - suc k in
      let e : suc d + k ≡ n = omega arith in
      member-suc (bit b * 2 ^ n + r) k ∙ ap (λ (i : ℕ). eqb i 1) (rw e at (digit_low (bit b) r k d)) ∙ sym (member-suc r k)

-- a number below 2 ^ n has no keeper past n
pub member-past : (set n x : ℕ) → set < 2 ^ n → n < x → member set x ≡ false
member-past set n zero h l = absurd (not-suc-le-zero l)
member-past set n (suc k) h l =
    member-suc set k ∙ ap (λ (i : ℕ). eqb (i % 2) 1) (div-eq_of_lt (lt_of_lt_of_le h (pow_mono (le_of_suc-le-suc l))))

-- the keepers of the set are those of 1..n that pass
pub member-keeper_set : (test : ℕ → Bool) (n x : ℕ) → 1 ≤ x → x ≤ n → member (keeper_set test n) x ≡ test x
unfolding keeper_set
member-keeper_set test zero x l h = absurd (omega arith)
member-keeper_set test (suc n) zero l h = absurd (omega arith)
member-keeper_set test (suc n) (suc k) l h =
    ⊎_elim (λ e. rw e (member_top (test (suc n)) (keeper_set test n) n (keeper_set_lt test n)))
    (λ g. member_low (test (suc n)) (keeper_set test n) n (keeper_set_lt test n) k g ∙ member-keeper_set test n (suc k) l g)
    (eq-or-lt_of_le (le_of_suc-le-suc h))

-- whoever is of the set passes
pub member_passes : (test : ℕ → Bool) (n x : ℕ) → 1 ≤ x → member (keeper_set test n) x ≡ true → test x ≡ true
member_passes test n x l e =
    by_cases (dec_le x n) (λ h. sym (member-keeper_set test n x l h) ∙ e)
    (λ h. absurd (true≢false (sym e ∙ member-past (keeper_set test n) n x (keeper_set_lt test n) (omega arith))))

-- tests that agree on 1..n give one set
pub keeper_set_same : (f g : ℕ → Bool) (n : ℕ) → ((x : ℕ) → 1 ≤ x → x ≤ n → f x ≡ g x) → keeper_set f n ≡ keeper_set g n
unfolding keeper_set
keeper_set_same f g zero h = refl
keeper_set_same f g (suc k) h =
    ap₂ (λ (b : Bool) (s : ℕ). bit b * 2 ^ k + s) (h (suc k) (omega arith) (omega arith)) (keeper_set_same f g k (λ x l m. h x l (omega arith)))

-- one keeper more, in rising order: it joins, or it does not
pub keeper_set_joined : (test : ℕ → Bool) (k : ℕ) → test (k + 1) ≡ true → keeper_set test (k + 1) ≡ keeper_set test k + 2 ^ k
unfolding keeper_set
keeper_set_joined test k = rw (add-one k) (λ e. rw e (omega arith))

pub keeper_set_skipped : (test : ℕ → Bool) (k : ℕ) → test (k + 1) ≡ false → keeper_set test (k + 1) ≡ keeper_set test k
unfolding keeper_set
keeper_set_skipped test k = rw (add-one k) (λ e. rw e (omega arith))

one_digit : (d : ℕ) → d < 2 → d ≡ bit (eqb d 1)
one_digit zero h = refl
one_digit (suc zero) h = refl
one_digit (suc (suc d)) h = absurd (omega arith)

of_digits : (b : Bool) (r k : ℕ) → r < 2 ^ k → keeper_set (member r) k ≡ r → keeper_set (member (bit b * 2 ^ k + r)) (suc k) ≡ bit b * 2 ^ k + r
unfolding keeper_set
of_digits b r k h e =
    ap₂ (λ (c : Bool) (s : ℕ). bit c * 2 ^ k + s) (member_top b r k h) (keeper_set_same (member (bit b * 2 ^ k + r)) (member r) k low ∙ e)
  where
    low : (x : ℕ) → 1 ≤ x → x ≤ k → member (bit b * 2 ^ k + r) x ≡ member r x
    low zero l m = absurd (omega arith)
    low (suc j) l m = member_low b r k h j m

-- a number is the set of its keepers
pub keeper_set-member : (n set : ℕ) → set < 2 ^ n → keeper_set (member set) n ≡ set
unfolding keeper_set
keeper_set-member zero set h = omega arith
keeper_set-member (suc k) set h =
    let d = set / 2 ^ k in
    let r = set % 2 ^ k in
    let l : d < 2 = (div-lt_iff_lt-mul (pow_pos k)).1 (omega arith) in
    let e : bit (eqb d 1) * 2 ^ k + r ≡ set = ap (λ (i : ℕ). i * 2 ^ k + r) (sym (one_digit d l)) ∙ split set k in
    let P : ℕ → Type 0 = λ n. keeper_set (member n) (suc k) ≡ n in
    subst P e (of_digits (eqb d 1) r k (mod-lt set (pow_pos k)) (keeper_set-member k r (mod-lt set (pow_pos k))))

-- how many keepers a number has
pub ones-member : (n set : ℕ) → set < 2 ^ n → ones set ≡ count (member set) (from 1 n)
ones-member n set h = ap ones (sym (keeper_set-member n set h)) ∙ ones-keeper_set (member set) n

-- one keeper more in a number whose keepers all come before it
module _ (base k : ℕ) (h : base < 2 ^ k) where
  as_digits : base + 2 ^ k ≡ bit true * 2 ^ k + base
  as_digits = omega arith

  pub joined_lt : base + 2 ^ k < 2 ^ (k + 1)
  joined_lt = rw (add-one k) (omega arith)

  pub joined_below : (n : ℕ) → k < n → base + 2 ^ k < 2 ^ n
  joined_below n l = lt_of_lt_of_le joined_lt (pow_mono {i = k + 1} {j = n} (omega arith))

  pub ones_joined : ones (base + 2 ^ k) ≡ ones base + 1
  unfolding ones lib.Count.ones_in
  ones_joined = rw as_digits (ones_cat k 1 base h ∙ add_comm 1 (ones base))
