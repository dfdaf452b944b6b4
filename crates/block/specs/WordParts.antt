-- Lengths and parts: n words are 2 n bytes, word i is bytes 2 i and 2 i + 1, and a part of the one is a part of the other.
-- Assumes nothing.
use Rattle.std.specs.Prelude.{ℕ, zero, suc, ◌+◌, ◌-◌, ◌*◌, ◌/◌, ◌<◌, ◌≤◌, ◌≡◌, refl, List, [], ◌∷◌, ◌++◌, length, get_or, take, drop}
use Rattle.std.proofs.Common.{not-suc-le-zero, arith, length-take-le, take_all}
use Rattle.lists.specs.Patched.{patched}
use Rattle.block.specs.WordLaws.{words_bytes}
use Rattle.block.specs.Words.{bytes_of, words_of}

double : (n : ℕ) → 2 * suc n ≡ suc (suc (2 * n))
double n = omega arith

double_one : (n : ℕ) → 2 * suc n + 1 ≡ suc (suc (2 * n + 1))
double_one n = omega arith

pub length_bytes : (ws : List ℕ) → length (bytes_of ws) ≡ 2 * length ws
unfolding bytes_of
length_bytes [] = refl
length_bytes (w ∷ ws) = omega (arith, length_bytes ws)

pub length-words : (bs : List ℕ) → length (words_of bs) ≡ length bs / 2
unfolding words_of
length-words [] = refl
length-words (b ∷ []) = refl
length-words (high ∷ low ∷ bs) = omega (arith, length-words bs)

pub get_d_words : (bs : List ℕ) (i : ℕ) → 2 * i + 1 < length bs → get_or (words_of bs) i 0 ≡ get_or bs (2 * i) 0 * 256 + get_or bs (2 * i + 1) 0
unfolding words_of
get_d_words [] i h = absurd (not-suc-le-zero h)
get_d_words (b ∷ []) i h = absurd (omega arith)
get_d_words (high ∷ low ∷ bs) zero h = refl
get_d_words (high ∷ low ∷ bs) (suc i) h = rw (double_one i, double i) (get_d_words bs i (omega arith))

pub words_take : (n : ℕ) (bs : List ℕ) → words_of (take (2 * n) bs) ≡ take n (words_of bs)
unfolding words_of
words_take zero bs = refl
words_take (suc n) [] = rw (double n)
words_take (suc n) (b ∷ []) = rw (double n)
words_take (suc n) (high ∷ low ∷ bs) = rw (double n, words_take n bs)

-- a block's bytes are 256 words, no more and no fewer
pub words_all : (bs : List ℕ) → length bs ≡ 512 → take 256 (words_of bs) ≡ words_of bs
words_all bs size = take_all 256 (words_of bs) (omega (arith, length-words bs))

pub words-drop : (n : ℕ) (bs : List ℕ) → words_of (drop (2 * n) bs) ≡ drop n (words_of bs)
unfolding words_of
words-drop zero bs = refl
words-drop (suc n) [] = rw (double n)
words-drop (suc n) (b ∷ []) = rw (double n)
words-drop (suc n) (high ∷ low ∷ bs) = rw (double n) (words-drop n bs)

words_append : (n : ℕ) (xs ys : List ℕ) → length xs ≡ 2 * n → words_of (xs ++ ys) ≡ words_of xs ++ words_of ys
unfolding words_of
words_append n [] ys size = refl
words_append n (b ∷ []) ys size = absurd (omega arith)
words_append n (high ∷ low ∷ xs) ys size = rw (words_append (n - 1) xs ys (omega arith))

pub bytes_append : (xs ys : List ℕ) → bytes_of (xs ++ ys) ≡ bytes_of xs ++ bytes_of ys
unfolding bytes_of
bytes_append [] ys = refl
bytes_append (x ∷ xs) ys = rw (bytes_append xs ys)

-- words laid over bytes are laid over the words that the bytes are
pub words-patched : (bs : List ℕ) (a : ℕ) (ws : List ℕ) → 2 * a ≤ length bs
    → words_of (patched bs (2 * a) (bytes_of ws)) ≡ patched (words_of bs) a ws
words-patched bs a ws h =
    let end : 2 * a + length (bytes_of ws) ≡ 2 * (a + length ws) = omega (arith, length_bytes ws) in
    let rest = drop (2 * (a + length ws)) bs in
    rw (end, words_append a (take (2 * a) bs) (bytes_of ws ++ rest) (length-take-le (2 * a) bs h), words_append (length ws) (bytes_of ws) rest (length_bytes ws))
    (rw (words_take, words-drop, words_bytes))
