-- What the header words of a block must be, by its mark and the most that its word 14 may be: 81 and 0 of a letter, 82 and any word of a sub-letter.
-- Assumes nothing.
use Rattle.std.specs.Prelude.{ℕ, Bool, ◌&&◌, List, eqb, leb, get_or, take, drop}
use Rattle.block.specs.Check.{all_at_most}
use Rattle.header.specs.declared.head.Head.{Head}
use Rattle.header.specs.Head.{head_of, lawful_head, same_head}

-- 11: "word 0 or 1 is wrong"
unfoldable pub mark_right : ℕ → List ℕ → Bool
mark_right mark ws = eqb (get_or ws 0 0) mark && eqb (get_or ws 1 0) 1

-- "a wrong place"; "12 for words 14 and 15", where `most` is 0. In a sub-letter 19 "alone judges word 14", and `most` is 256, which 9 lets through.
unfoldable pub place_right : ℕ → ℕ → List ℕ → Bool
place_right most place ws = eqb (get_or ws 12 0) place && (leb (get_or ws 14 0) most && eqb (get_or ws 15 0) 0)

-- 12: "an unlawful order, a keeper outside 1..n, stamp 0, L out of range, a byte word of 256, a wrong place", "words 14 and 15", "word 13 being
-- 256", "and a later block that disagrees with block 0"
unfoldable pub header_right : ℕ → Head → ℕ → List ℕ → Bool
header_right most first place ws =
    lawful_head (head_of ws)
    && (all_at_most 255 (take 6 (drop 6 ws))
    && (place_right most place ws
    && same_head (head_of ws) first))
