-- `block::check::seal` meets its contract: the words before the check words stay, and the check words are those of the words before them.
-- Assumes nothing.
use Rattle.std.proofs.Common.{ℕ, ◌+◌, ◌≤◌, ◌≡◌, ◌∙◌, List, [], ◌∷◌, append-nil, arith, length, take, drop_of_length-le, length-take-le, rules}
use Rattle.block.specs.Check.{plain_check, weighted_check, sealed}
use Rattle.block.specs.CheckLaws.{checks_take}
use Rattle.block.specs.WordLaws.{bytes_words}
use Rattle.block.specs.WordParts.{length_bytes, words_take, bytes_append}
use Rattle.block.specs.Words.{bytes_of, words_of}
use Rattle.lists.specs.Below.{Below, below_take}
use Rattle.lists.specs.Patched.{patched}
use Rattle.block.proofs.check.seal.Goals as goal

-- the check words of all words, laid over the last two
sealed_bytes : (bytes : List ℕ) → length bytes ≡ 512 → Below 256 bytes
    → patched bytes 508 (bytes_of (plain_check (words_of bytes) ∷ weighted_check (words_of bytes) ∷ [])) ≡ bytes_of (sealed (take 254 (words_of bytes)))
unfolding sealed
sealed_bytes bytes size below =
    let words = words_of bytes in
    let last = plain_check words ∷ weighted_check words ∷ [] in
    let end : length bytes ≤ 508 + length (bytes_of last) = omega (arith, length_bytes last) in
    let front = bytes_words 254 (take 508 bytes) (length-take-le 508 bytes (omega arith)) (below_take 256 508 bytes below) in
    rw ((checks_take words).0, (checks_take words).1, bytes_append (take 254 words) last, ← words_take 254 bytes, front)
    (rw (drop_of_length-le bytes end, append-nil))

pub returns : goal.returns
returns c =
    let bytes = c.args.block.now in
    let below : Below 256 bytes = λ i h. search rules in
    let checks = rw c.exchanged_words-row.ensures at c.check_words.ensures in
    rw checks at c.put_words.ensures ∙ sealed_bytes bytes c.requires below
