-- An empty slot.
-- Assumes nothing.
use Rattle.std.specs.Prelude.{ℕ, ◌≡◌, refl, List, replicate}
use Rattle.lists.specs.Total.{total}
use Rattle.block.specs.Check.{all_at_most, checked, block_number}
use Rattle.block.specs.Words.{words_of}
use Rattle.header.specs.Head.{head_of}
use Rattle.header.specs.Rules.{mark_right}
use Rattle.format.specs.Reading.{Bad, read_of, read_as, judged_from, first_fault, letter_block_number}
use Rattle.format.specs.Letter.{blocks_for}

-- "A slot of zeros"
abbrev pub zero_slot : List ℕ
zero_slot = replicate 2048 0

-- "A slot of zeros gives 11 at place 0."
pub zeros_read : read_of zero_slot ≡ Bad 11 0
unfolding read_as judged_from first_fault letter_block_number mark_right blocks_for head_of block_number all_at_most checked total words_of
zeros_read = refl
