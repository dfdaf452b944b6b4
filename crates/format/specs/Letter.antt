-- The slot of a head and its share words, with a mark and a number in word 14 of each block; a letter is the case 81 and 0.
-- Assumes nothing.
use Rattle.std.specs.Prelude.{ℕ, ◌+◌, ◌-◌, ◌*◌, ◌/◌, List, ◌++◌, get_or, replicate}
use Rattle.lists.specs.Listed.{listed}
use Rattle.lists.specs.Pieces.{pieces}
use Rattle.block.specs.Words.{bytes_of}
use Rattle.block.specs.Check.{sealed}
use Rattle.header.specs.declared.head.Head.{Head}
use Rattle.header.specs.Head.{head_words}

-- "A letter is L/238 blocks, rounded up"
unfoldable pub blocks_for : ℕ → ℕ
blocks_for l = (l + 237) / 238

-- the 238 share words of block p; "share words past L are 0"
unfoldable pub block_shares : List ℕ → ℕ → List ℕ
block_shares shares p = listed (λ i. get_or shares (238 * p + i) 0) 238

-- the 512 bytes of block p
unfoldable pub block_bytes : ℕ → ℕ → Head → List ℕ → ℕ → List ℕ
block_bytes mark from h shares p = bytes_of (sealed (head_words mark from h p ++ block_shares shares p))

-- its blocks; "the rest of the slot is zero bytes"
unfoldable pub slot_bytes : ℕ → ℕ → Head → List ℕ → List ℕ
slot_bytes mark from h shares =
    pieces (block_bytes mark from h shares) (blocks_for h.length) ++ replicate (2048 - 512 * blocks_for h.length) 0

-- a letter: word 0 is 81, and word 14 "stays 0"
abbrev pub letter_bytes : Head → List ℕ → List ℕ
letter_bytes h shares = slot_bytes 81 0 h shares
