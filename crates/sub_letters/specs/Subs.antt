-- Sub-letters lent end to end: what each reads as, and which old keeper it names.
-- Assumes nothing.
use Rattle.std.specs.Prelude.{ℕ, suc, Bool, ◌&&◌, List, eqb, length, get_or}
use Rattle.lists.specs.AllTo.{all_to}
use Rattle.lists.specs.Listed.{listed}
use Rattle.header.specs.declared.head.Head.{Head}
use Rattle.header.specs.Head.{head_of}
use Rattle.format.specs.Reading.{Reading, block_words, read_as}
use Rattle.format.specs.Letter.{blocks_for}
use Rattle.tray.specs.Tray.{slot_of}
use Rattle.sub_letters.specs.Keepers.{differ, each_in}

-- what sub-letter k reads as, counted from 0: "mark 82"; 12 does not look at word 14, whatever 9 lets through
abbrev pub sub_reading : List ℕ → ℕ → Reading
sub_reading letters k = read_as 82 256 (slot_of letters (suc k))

-- what its block 0 says
abbrev pub sub_head : List ℕ → ℕ → Head
sub_head letters k = head_of (block_words (slot_of letters (suc k)) 0)

-- "the old keeper's number in word 14": of its block p
abbrev pub from_at : List ℕ → ℕ → ℕ → ℕ
from_at letters k p = get_or (block_words (slot_of letters (suc k)) p) 14 0

-- the old keepers that the first sub-letters name, by their block 0
unfoldable pub froms_of : List ℕ → ℕ → List ℕ
froms_of letters count = listed (λ k. from_at letters k 0) count

-- no sub-letter of l share words names another keeper in a later block
unfoldable pub steady : List ℕ → ℕ → ℕ → Bool
steady letters count l = all_to (λ k. all_to (λ p. eqb (from_at letters k p) (from_at letters k 0)) (blocks_for l)) count

-- what is asked of the keepers told and the froms, those that the sub-letters name
abbrev pub named_right : List ℕ → List ℕ → List ℕ → ℕ → Bool
named_right keepers froms letters l =
    differ keepers && (differ froms && (each_in keepers froms && (each_in froms keepers && steady letters (length keepers) l)))

-- not 19: "an old keeper repeated, missing, not told or changing between blocks"
unfoldable pub froms_right : List ℕ → List ℕ → ℕ → Bool
froms_right keepers letters l = named_right keepers (froms_of letters (length keepers)) letters l
