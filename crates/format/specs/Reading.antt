-- What a slot reads as, by the mark that it should have and the most that its words 14 may be; as a letter by 81 and 0.
-- Assumes nothing.
use Rattle.std.specs.Prelude.{ℕ, zero, suc, ◌*◌, ◌-◌, max, Bool, cond, ◌&&◌, List, Result, Ok, Err, eqb, length, take, drop}
use Rattle.lists.specs.Pieces.{pieces}
use Rattle.block.specs.Words.{words_of}
use Rattle.block.specs.Check.{all_at_most, block_number}
use Rattle.refusals.specs.Numbers.{code}
use Rattle.header.specs.declared.head.Head.{Head}
use Rattle.header.specs.FirstOf.{first_of}
use Rattle.header.specs.Head.{head_of}
use Rattle.header.specs.Rules.{mark_right, header_right}
use Rattle.format.specs.declared.reader.Fault.{Fault}
use Rattle.format.specs.Letter.{blocks_for}

-- What a slot reads as: "A good letter answers 0 with its header's numbers and place 0"; else the number of what is wrong, "and its place is in the result".
pub data Reading : Type 0 where
  Good : Head → Reading
  Bad : ℕ → ℕ → Reading

-- the reader's answer as that
abbrev pub reading_of : Result Head Fault → Reading
reading_of (Ok h) = Good h
reading_of (Err fault) = Bad (code fault.refusal) fault.place

-- the words of block p
abbrev pub block_words : List ℕ → ℕ → List ℕ
block_words slot p = words_of (take 512 (drop (512 * p) slot))

-- "in a block 9, then 10, 11, 12"; 0 where the block is good
unfoldable pub letter_block_number : ℕ → ℕ → Head → ℕ → List ℕ → ℕ
letter_block_number mark most first p ws =
    first_of (block_number ws) (first_of (cond (mark_right mark ws) 0 11) (cond (header_right most first p ws) 0 12))

-- "the first faulty block decides, and its place is in the result": of k blocks from place p on, by the number of each
unfoldable pub first_fault : (ℕ → ℕ) → ℕ → ℕ → Reading → Reading
first_fault number p zero otherwise = otherwise
first_fault number p (suc k) otherwise = cond (eqb (number p) 0) (first_fault number (suc p) k otherwise) (Bad (number p) p)

-- the share words of the first k blocks, the zeros past L with them
unfoldable pub all_shares : List ℕ → ℕ → List ℕ
all_shares slot k = pieces (λ p. take 238 (drop 16 (block_words slot p))) k

-- the share words of a letter of l of them
abbrev pub shares_of : List ℕ → ℕ → List ℕ
shares_of slot l = take l (all_shares slot (blocks_for l))

-- 13: "bytes or share words past the end aren't zero"
unfoldable pub ends_in_zeros : List ℕ → ℕ → Bool
ends_in_zeros slot l = all_at_most 0 (drop l (all_shares slot (blocks_for l))) && all_at_most 0 (drop (512 * blocks_for l) slot)

-- "Number 13 comes last, with place 0."
unfoldable pub ending : List ℕ → Head → Reading
ending slot h = cond (ends_in_zeros slot h.length) (Good h) (Bad 13 0)

-- "Then blocks in place order": the judgement from place p on of a letter whose block 0 says h. Block 0 is judged whatever it says.
unfoldable pub judged_from : ℕ → ℕ → List ℕ → Head → ℕ → Reading
judged_from mark most slot h p =
    first_fault (λ place. letter_block_number mark most h place (block_words slot place)) p (max 1 (blocks_for h.length) - p) (ending slot h)

-- "Wrong slot length is 4."
unfoldable pub read_as : ℕ → ℕ → List ℕ → Reading
read_as mark most slot = cond (eqb (length slot) 2048) (judged_from mark most slot (head_of (block_words slot 0)) 0) (Bad 4 0)

-- as a letter
abbrev pub read_of : List ℕ → Reading
read_of slot = read_as 81 0 slot

-- the page's numbers for each answer: "A good letter answers 0 with its header's numbers and place 0"; a refusal's other numbers are 0
abbrev pub number_of : Reading → ℕ
number_of (Good h) = 0
number_of (Bad number place) = number

-- "A good letter answers 0 .. and place 0"; else the place of the fault
abbrev pub place_of : Reading → ℕ
place_of (Good h) = 0
place_of (Bad number place) = place

-- "Unless stated, every other number in a refusal's result is 0."
abbrev pub no_head : Head
no_head = record { told = record { order = record { t = 0; f = 0; n = 0 }; key = 0 }; keeper = 0; stamp = 0; length = 0 }

-- "its header's numbers"; zeros where the letter is not good
abbrev pub read_head : Reading → Head
read_head (Good h) = h
read_head (Bad number place) = no_head
