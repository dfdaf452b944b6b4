-- How many numbers of a list pass a test. A set of keepers is such a test, counted over a list of keepers.
-- Assumes nothing.
use Rattle.std.specs.Prelude.{ℕ, ◌+◌, ◌≤◌, ◌≡◌, refl, Bool, true, false, not, ◌&&◌, List, [], ◌∷◌, ◌++◌, length}
use Rattle.std.proofs.Common.{zero-le, ap, inl, inr, arith}
use Rattle.lists.specs.Folded.{folded_same}
use Rattle.lists.specs.Member.{In}

-- 1 for a test that passes, 0 for one that fails
abbrev pub bit : Bool → ℕ
bit true = 1
bit false = 0

-- how many of a list pass
unfoldable pub count : (ℕ → Bool) → List ℕ → ℕ
count f [] = 0
count f (x ∷ xs) = bit (f x) + count f xs

abbrev pub both : (ℕ → Bool) → (ℕ → Bool) → ℕ → Bool
both f g x = f x && g x

bit_le : (a b : Bool) → (a ≡ true → b ≡ true) → bit a ≤ bit b
bit_le true b h = rw (h refl) (omega arith)
bit_le false b h = zero-le

bit_le_one : (b : Bool) → bit b ≤ 1
bit_le_one true = omega arith
bit_le_one false = omega arith

bit_not : (b : Bool) → bit b + bit (not b) ≡ 1
bit_not true = refl
bit_not false = refl

bit-both : (a b : Bool) → bit a + bit b ≤ 1 + bit (a && b)
bit-both true b = omega arith
bit-both false b = omega (arith, bit_le_one b)

-- two tests that many pass have many in common
pub count-both : (f g : ℕ → Bool) (xs : List ℕ) → count f xs + count g xs ≤ length xs + count (both f g) xs
unfolding count
count-both f g [] = omega arith
count-both f g (x ∷ xs) = omega (arith, count-both f g xs, bit-both (f x) (g x))

pub count_le_length : (f : ℕ → Bool) (xs : List ℕ) → count f xs ≤ length xs
unfolding count
count_le_length f [] = omega arith
count_le_length f (x ∷ xs) = omega (arith, count_le_length f xs, bit_le_one (f x))

-- those that pass and those that do not are all of them
pub count_not : (f : ℕ → Bool) (xs : List ℕ) → count f xs + count (λ x. not (f x)) xs ≡ length xs
unfolding count
count_not f [] = refl
count_not f (x ∷ xs) = omega (arith, count_not f xs, bit_not (f x))

pub count_mono : (f g : ℕ → Bool) (xs : List ℕ) → ((x : ℕ) → In x xs → f x ≡ true → g x ≡ true) → count f xs ≤ count g xs
unfolding count
count_mono f g [] h = omega arith
count_mono f g (x ∷ xs) h = omega (arith, count_mono f g xs (λ y m. h y (inr m)), bit_le (f x) (g x) (h x (inl refl)))

pub count_same : (f g : ℕ → Bool) (xs : List ℕ) → ((x : ℕ) → In x xs → f x ≡ g x) → count f xs ≡ count g xs
unfolding count
count_same = folded_same count (λ x b n. bit b + n) (λ f g. refl) (λ f x xs. refl)

-- where all pass, the count is the length
pub count_all : (f : ℕ → Bool) (xs : List ℕ) → ((x : ℕ) → In x xs → f x ≡ true) → count f xs ≡ length xs
unfolding count
count_all f [] h = refl
count_all f (x ∷ xs) h = omega (arith, ap bit (h x (inl refl)), count_all f xs (λ y m. h y (inr m)))

pub count-append : (f : ℕ → Bool) (xs ys : List ℕ) → count f (xs ++ ys) ≡ count f xs + count f ys
unfolding count
count-append f [] ys = omega arith
count-append f (x ∷ xs) ys = omega (arith, count-append f xs ys)
