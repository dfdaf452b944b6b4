-- The ranks of a tray's letters, and the next rank of a large group.
-- Assumes nothing.
use Rattle.std.specs.Prelude.{Option, Some, None, ℕ, ◌==◌, count_by, ◌+◌, ◌-◌, ◌*◌, ◌/◌, ◌%◌, ◌≤◌, ◌<◌, ◌≡◌, Bool, not, cond, ◌&&◌, List, eqb, leb, ltb, length, get_or}
use Rattle.lists.specs.Count.{count}
use Rattle.lists.specs.From.{from}
use Rattle.header.specs.declared.told.Told.{Told}
use Rattle.header.specs.declared.head.Head.{Head}
use Rattle.header.specs.Head.{lawful_head, same_head, head_of}
use Rattle.header.specs.TermsLaws.{TermsFacts}
use Rattle.format.specs.Reading.{block_words}
use Rattle.tray.specs.Tray.{head_for, slot_of}
use Rattle.pick.specs.Pick.{Picked}
use Rattle.pick.specs.Pick.{picked}

-- a length is below 1024, so a greater stamp has a greater rank, and of one stamp a greater length
abbrev pub rank_of : ℕ → ℕ → ℕ
rank_of stamp l = stamp * 1024 + l

abbrev pub stamp_in : ℕ → ℕ
stamp_in rank = rank / 1024

abbrev pub length_in : ℕ → ℕ
length_in rank = rank % 1024

-- whether a letter of the order and key, and of keeper x, may have this head
unfoldable pub may_have : Told → ℕ → Head → Bool
may_have told x h = lawful_head h && same_head h (head_for told h.stamp h.length x)

-- the rank of such a head; 0 of any other
abbrev pub rank_said : Told → ℕ → Head → ℕ
rank_said told x h = cond (may_have told x h) (rank_of h.stamp h.length) 0

-- the rank that the slot of keeper k + 1 says, whether or not the letter is good
unfoldable pub rank_at : Told → List ℕ → ℕ → ℕ
rank_at told tray k = rank_said told (k + 1) (head_of (block_words (slot_of tray (k + 1)) 0))

pub record RanksOf (told : Told) (tray ranks : List ℕ) : Type 0 where
  pub at : (k : ℕ) → k < told.order.n → get_or ranks k 0 ≡ rank_at told tray k

-- the size of a rank's group: how many of the first n ranks it is
unfoldable pub size_of : List ℕ → ℕ → ℕ → ℕ
size_of ranks n rank = count (λ x. eqb (get_or ranks (x - 1) 0) rank) (from 1 n)

-- whether a rank is below a bound and its group is at least so large
abbrev pub is_next : List ℕ → ℕ → ℕ → ℕ → Bool
is_next ranks least bound rank = ltb 0 rank && (ltb rank bound && leb least (count_by (λ x. x == rank) ranks))

-- no rank of a letter is 0
abbrev pub rank_or_none : Option ℕ → ℕ
rank_or_none (Some rank) = rank
rank_or_none None = 0

-- the greatest of the first n ranks below a bound whose group is at least so large; 0 where there is none
pub record NextOf (ranks : List ℕ) (n least bound best : ℕ) : Type 0 where
  pub most : (k : ℕ) → k < n → get_or ranks k 0 < bound → least ≤ size_of ranks n (get_or ranks k 0) → get_or ranks k 0 ≤ best
  pub large : 1 ≤ best → (best < bound) × (least ≤ size_of ranks n best)

-- a rank of a lawful stamp and length, and a tray of a slot for each keeper
pub record Joinable (told : Told) (tray : List ℕ) (rank : ℕ) : Type 0 where
  pub terms : TermsFacts told (stamp_in rank) (length_in rank)
  pub slots : length tray ≡ 2048 * told.order.n

-- whether a group that was tried is the first large one, by the number answered so far
abbrev pub is_first : ℕ → ℕ → Bool
is_first number tried = eqb number 6 && not (eqb tried 6)

-- a number, with the stamp and the length of a rank
abbrev pub answer_of : ℕ → ℕ → Picked
answer_of number rank = picked number (stamp_in rank) (length_in rank)
