-- `block::words::put_words` meets its contract: turn by turn the first i words lie over the bytes, and nothing else changes.
-- Assumes nothing.
use Rattle.std.proofs.Common.{ℕ, ◌+◌, ◌-◌, ◌*◌, ◌/◌, ◌%◌, ◌≤◌, ◌<◌, ◌≡◌, sym, ap, ◌∙◌, List, [], ◌∷◌, ◌++◌, add-one, arith, length, take, drop, get_or, drop-drop, length-take-le, take-suc, take_all}
use Rattle.block.specs.WordParts.{length_bytes, bytes_append}
use Rattle.block.specs.Words.{bytes_of}
use Rattle.lists.specs.Patched.{patched, patched_none, patched_more}
use Rattle.block.proofs.words.put_words.Goals as goal

-- one word more is two bytes more
next_word : (words : List ℕ) (i : ℕ) → i < length words
    → bytes_of (take (i + 1) words) ≡ bytes_of (take i words) ++ (get_or words i 0 / 256 ∷ get_or words i 0 % 256 ∷ [])
unfolding bytes_of
next_word words i h = rw (add-one, take-suc words i 0 h, bytes_append)

-- and laid right behind those that are laid
word_more : (bytes now pair words : List ℕ) (from i : ℕ) → i < length words → 2 * from + 2 * length words ≤ length bytes
    → now ≡ patched bytes (2 * from) (bytes_of (take i words)) → pair ≡ get_or words i 0 / 256 ∷ get_or words i 0 % 256 ∷ []
    → let at = 2 * (from + i) in
    take at now ++ (pair ++ drop (at + 2 - at) (drop at now)) ≡ patched bytes (2 * from) (bytes_of (take (i + 1) words))
word_more bytes now pair words from i h room so_far e =
    let w = get_or words i 0 in
    let done = bytes_of (take i words) in
    let size : length done ≡ 2 * i = omega (arith, length_bytes (take i words), length-take-le i words (omega arith)) in
    let place : 2 * (from + i) ≡ 2 * from + length done = omega arith in
    let whole : 2 * (from + i) + 2 - 2 * (from + i) ≡ 2 = omega arith in
    rw (whole, drop-drop, place, so_far, e, next_word words i h)
    (patched_more bytes (2 * from) done (w / 256 ∷ w % 256 ∷ []) (omega arith))

pub loop-i-init : goal.loop-i-init
unfolding bytes_of
loop-i-init c = sym (patched_none c.args.bytes.now (2 * c.args.from))

pub loop-i-preserved : goal.loop-i-preserved
loop-i-preserved c =
    let a = c.args in
    let w = get_or a.words.now c.loop-i.i 0 in
    let high : w / 256 % 256 ≡ w / 256 = omega (arith, c.type_inv.words c.loop-i.i) in
    word_more a.bytes.now c.loop-i.bytes c.copy_from_slice.new.self a.words.now a.from c.loop-i.i c.loop-i-test.true c.requires c.loop-i.invariant
    (c.copy_from_slice.ensures.after ∙ c.to_be_bytes.ensures ∙ rw high)

pub returns : goal.returns
returns c =
    let a = c.args in
    c.loop-i.invariant ∙ ap (λ ws. patched a.bytes.now (2 * a.from) (bytes_of ws)) (take_all c.loop-i.i a.words.now c.loop-i-test.false)
