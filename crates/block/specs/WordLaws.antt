-- Words as bytes and bytes as words are each other's reverse, and keep their bounds.
-- Assumes nothing.
use Rattle.std.specs.Prelude.{ℕ, ◌+◌, ◌-◌, ◌*◌, ◌/◌, ◌%◌, ◌<◌, ◌≡◌, refl, List, [], ◌∷◌, length}
use Rattle.std.proofs.Common.{arith}
use Rattle.lists.specs.Below.{Below, below_nil, below_head, below_tail, below_cons}
use Rattle.block.specs.Words.{bytes_of, words_of}

whole : (w : ℕ) → w / 256 * 256 + w % 256 ≡ w
whole w = omega arith

pub words_bytes : (ws : List ℕ) → words_of (bytes_of ws) ≡ ws
unfolding words_of bytes_of
words_bytes [] = refl
words_bytes (w ∷ ws) = rw (whole w, words_bytes ws)

high_is : (high low : ℕ) → low < 256 → (high * 256 + low) / 256 ≡ high
high_is high low h = omega arith

low_is : (high low : ℕ) → low < 256 → (high * 256 + low) % 256 ≡ low
low_is high low h = omega arith

pub bytes_words : (n : ℕ) (bs : List ℕ) → length bs ≡ 2 * n → Below 256 bs → bytes_of (words_of bs) ≡ bs
unfolding words_of bytes_of
bytes_words n [] size b = refl
bytes_words n (high ∷ []) size b = absurd (omega arith)
bytes_words n (high ∷ low ∷ bs) size b =
    let rest = below_tail 256 high (low ∷ bs) b in
    let h = below_head 256 low bs rest in
    rw (high_is high low h, low_is high low h, bytes_words (n - 1) bs (omega arith) (below_tail 256 low bs rest))

pub below_bytes : (ws : List ℕ) → Below 65536 ws → Below 256 (bytes_of ws)
unfolding bytes_of
below_bytes [] b = below_nil 256
below_bytes (w ∷ ws) b =
    let h = below_head 65536 w ws b in
    below_cons 256 (w / 256) (w % 256 ∷ bytes_of ws) (omega arith) (below_cons 256 (w % 256) (bytes_of ws) (omega arith) (below_bytes ws (below_tail 65536 w ws b)))

pub below_words : (bs : List ℕ) → Below 256 bs → Below 65536 (words_of bs)
unfolding words_of
below_words [] b = below_nil 65536
below_words (high ∷ []) b = below_nil 65536
below_words (high ∷ low ∷ bs) b =
    let rest = below_tail 256 high (low ∷ bs) b in
    let h = below_head 256 high (low ∷ bs) b in
    let l = below_head 256 low bs rest in
    below_cons 65536 (high * 256 + low) (words_of bs) (omega arith) (below_words bs (below_tail 256 low bs rest))
