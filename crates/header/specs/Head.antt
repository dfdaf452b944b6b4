-- The head: what the header words of every block of a letter say.
-- Assumes nothing.
use Rattle.std.specs.Prelude.{ℕ, ◌+◌, ◌*◌, ◌/◌, ◌%◌, ◌^◌, Bool, ◌&&◌, List, [], ◌∷◌, eqb, get_or}
use Rattle.header.specs.declared.order.Order.{Order}
use Rattle.header.specs.declared.told.Told.{Told}
use Rattle.header.specs.declared.head.Head.{Head}
use Rattle.header.specs.Order.{lawful_keeper}
use Rattle.header.specs.Terms.{lawful_stamp, lawful_length}
use Rattle.header.specs.Told.{lawful_told, same_told}

-- lawful, where number 12 finds none of "an unlawful order, a keeper outside 1..n, stamp 0, L out of range", "word 13 being 256"
unfoldable pub lawful_head : Head → Bool
lawful_head h = lawful_told h.told && (lawful_keeper h.told.order h.keeper && (lawful_stamp h.stamp && lawful_length h.length))

-- the same order, key, keeper, stamp and length
unfoldable pub same_head : Head → Head → Bool
same_head a b = same_told a.told b.told && (eqb a.keeper b.keeper && (eqb a.stamp b.stamp && eqb a.length b.length))

-- byte k of a number, counted from the low end
abbrev pub byte_of : ℕ → ℕ → ℕ
byte_of k x = x / 256 ^ k % 256

-- words 0..15 of block p, as the page's table has them; word 13 is the key. Word 0 is the mark and word 14 what the mark asks for: "mark 82, the
-- old keeper's number in word 14" of a sub-letter, 81 and 0 of a letter
unfoldable pub head_words : ℕ → ℕ → Head → ℕ → List ℕ
head_words mark from h p =
    mark ∷ 1 ∷ h.told.order.t ∷ h.told.order.f ∷ h.told.order.n ∷ h.keeper
    ∷ byte_of 3 h.stamp ∷ byte_of 2 h.stamp ∷ byte_of 1 h.stamp ∷ byte_of 0 h.stamp
    ∷ byte_of 1 h.length ∷ byte_of 0 h.length ∷ p ∷ h.told.key ∷ from ∷ 0 ∷ []

-- the low byte of word i
abbrev pub low_byte : List ℕ → ℕ → ℕ
low_byte ws i = get_or ws i 0 % 256

-- What header words say. A stamp and a length stand "one byte a word, high first"; number 12 holds those words to be bytes.
abbrev pub order_of : List ℕ → Order
order_of ws = record { t = get_or ws 2 0; f = get_or ws 3 0; n = get_or ws 4 0 }

-- what the letter is of: "Word 13 of each block becomes the key number"
abbrev pub told_of : List ℕ → Told
told_of ws = record { order = order_of ws; key = get_or ws 13 0 }

-- words 6..9: "stamp, one byte a word, high first"
abbrev pub stamp_of : List ℕ → ℕ
stamp_of ws = low_byte ws 6 * 16777216 + low_byte ws 7 * 65536 + low_byte ws 8 * 256 + low_byte ws 9

-- words 10, 11: "L, one byte a word, high first"
abbrev pub length_of : List ℕ → ℕ
length_of ws = low_byte ws 10 * 256 + low_byte ws 11

-- all of it; the keeper is word 5
unfoldable pub head_of : List ℕ → Head
head_of ws = record { told = told_of ws; keeper = get_or ws 5 0; stamp = stamp_of ws; length = length_of ws }
