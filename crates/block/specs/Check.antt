-- A block: 254 words, whatever they mean, and the two check words after them.
-- Assumes nothing.
use Rattle.std.specs.Prelude.{ℕ, ◌*◌, ◌%◌, ◌^◌, Bool, true, cond, ◌&&◌, List, [], ◌∷◌, ◌++◌, leb, eqb, get_or}
use Rattle.lists.specs.Total.{total}

-- word 254: "sum of words 0..253, modulo 257"
abbrev pub plain_check : List ℕ → ℕ
plain_check ws = total (λ i. get_or ws i 0) 254 % 257

-- word 255: "sum of word i times 3^i, i = 0..253, modulo 257"
abbrev pub weighted_check : List ℕ → ℕ
weighted_check ws = total (λ i. get_or ws i 0 * 3 ^ i) 254 % 257

-- 254 words with their check words
unfoldable pub sealed : List ℕ → List ℕ
sealed ws = ws ++ (plain_check ws ∷ weighted_check ws ∷ [])

-- every word is at most so large
unfoldable pub all_at_most : ℕ → List ℕ → Bool
all_at_most top [] = true
all_at_most top (w ∷ ws) = leb w top && all_at_most top ws

-- words 254 and 255 are what they must be
unfoldable pub checked : List ℕ → Bool
checked ws = eqb (get_or ws 254 0) (plain_check ws) && eqb (get_or ws 255 0) (weighted_check ws)

-- What is wrong with the 256 words of a block, whatever they mean: 9, "a word in a block above 256"; then 10, "a check word is wrong"; 0 where nothing is.
unfoldable pub block_number : List ℕ → ℕ
block_number ws = cond (all_at_most 256 ws) (cond (checked ws) 0 10) 9
