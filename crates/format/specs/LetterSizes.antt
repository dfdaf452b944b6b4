-- How many blocks a letter has, what part of its share words each holds, and how long they are.
-- Assumes nothing.
use Rattle.std.specs.Prelude.{ℕ, ◌+◌, ◌-◌, ◌*◌, ◌<◌, ◌≤◌, min, ◌≡◌, List, ◌++◌, length, get_or, take, drop, replicate}
use Rattle.std.proofs.Common.{sym, ◌∙◌, arith, length-append, length-take, length-drop, get_or-take, get_or-drop}
use Rattle.std.proofs.Math.Logic.{by_cases}
use Rattle.std.proofs.Math.Decide.{dec_lt}
use Rattle.std.proofs.lemmas.List.{length-replicate}
use Rattle.std.proofs.Math.ListN.{get_or-eq_default}
use Rattle.lists.specs.Listed.{length-listed, listed_is}
use Rattle.lists.specs.Zeros.{get_d_append_zeros}
use Rattle.block.specs.WordParts.{length_bytes}
use Rattle.block.specs.CheckLaws.{length-sealed}
use Rattle.header.specs.declared.head.Head.{Head}
use Rattle.header.specs.HeaderLaws.{length-head_words}
use Rattle.format.specs.Letter.{blocks_for, block_shares, block_bytes}

pub record BlocksFacts (l : ℕ) : Type 0 where
  pub least : 1 ≤ blocks_for l
  pub most : blocks_for l ≤ 4
  pub needed : 238 * (blocks_for l - 1) < l
  pub enough : l ≤ 238 * blocks_for l

pub blocks_facts : (l : ℕ) → 1 ≤ l → l ≤ 952 → BlocksFacts l
unfolding blocks_for
blocks_facts l least most = omega arith

-- how many blocks a letter of this head has
abbrev pub block_count : Head → ℕ
block_count h = blocks_for h.length

-- the share words that block p holds
abbrev pub share_part : List ℕ → ℕ → List ℕ
share_part shares p = take (min (238 * p + 238) (length shares) - 238 * p) (drop (238 * p) shares)

length-share_part : (shares : List ℕ) (p : ℕ) → length (share_part shares p) ≡ min (238 * p + 238) (length shares) - 238 * p
length-share_part shares p = rw (length-take, length-drop) (omega arith)

get_d_share_part : (shares : List ℕ) (p i : ℕ) → i < 238 → get_or (share_part shares p) i 0 ≡ get_or shares (238 * p + i) 0
get_d_share_part shares p i h =
    by_cases (dec_lt i (min (238 * p + 238) (length shares) - 238 * p)) (λ within. rw (get_or-take, get_or-drop))
    (λ past. rw (get_or-eq_default (share_part shares p) 0 {n = i} (omega (arith, length-share_part shares p)), get_or-eq_default shares 0 {n = 238 * p + i} (omega arith)))

pub length-block_shares : (shares : List ℕ) (p : ℕ) → length (block_shares shares p) ≡ 238
unfolding block_shares
length-block_shares shares p = length-listed (λ i. get_or shares (238 * p + i) 0) 238

pub block_shares-part : (shares : List ℕ) (p : ℕ) → block_shares shares p ≡ share_part shares p ++ replicate (238 - length (share_part shares p)) 0
unfolding block_shares
block_shares-part shares p =
    sym
    (listed_is (λ i. get_or shares (238 * p + i) 0) 238 (share_part shares p ++ replicate (238 - length (share_part shares p)) 0)
    (simp (length-append, length-replicate) (omega (arith, length-share_part shares p)))
    (λ i h. get_d_append_zeros (share_part shares p) (238 - length (share_part shares p)) i ∙ get_d_share_part shares p i h))

pub length-block_bytes : (mark from : ℕ) (h : Head) (shares : List ℕ) (p : ℕ) → length (block_bytes mark from h shares p) ≡ 512
unfolding block_bytes
length-block_bytes mark from h shares p = simp (length_bytes, length-sealed, length-append, length-head_words, length-block_shares)
