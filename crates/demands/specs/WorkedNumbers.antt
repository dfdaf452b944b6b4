-- "Numbers to hold it to": C1..C12, of the definitions.
-- Assumes nothing.
use Rattle.std.specs.Prelude.{ℕ, ◌<◌, ◌≡◌, true, List, [], ◌∷◌, map, ◌↔◌, replicate}
use Rattle.lists.specs.From.{from}
use Rattle.field.specs.Modulo.{mod257}
use Rattle.block.specs.Check.{plain_check, weighted_check}
use Rattle.header.specs.declared.told.Told.{Told}
use Rattle.header.specs.Order.{lawful_order}
use Rattle.shares.specs.Shares.{share_words}
use Rattle.join.specs.Join.{Joined}
use Rattle.join.specs.Join.{answer, JoinDone}
use Rattle.demands.specs.HeldTray.{held_tray}

-- lists of one word each
abbrev pub each : List ℕ → List (List ℕ)
each ws = map (λ w. w ∷ []) ws

-- the share words of some keepers
abbrev pub shares : List ℕ → ℕ → List ℕ → List ℕ → List (List ℕ)
shares keepers t secret random = map (λ x. share_words mod257 t x secret random) keepers

-- "One byte, t=1, f=1, n=6", and any key
abbrev pub told : ℕ → Told
told key = record { order = record { t = 1; f = 1; n = 6 }; key = key }

-- what the join may answer and leave where keepers 1, 2 and so on hold letters of the words ws, and the others' slots are zeros
abbrev pub Allowed : ℕ → ℕ → List ℕ → List ℕ → Joined → List ℕ → Type 0
Allowed key stamp room ws result left = JoinDone mod257 (told key) stamp 1 (held_tray (told key) stamp 1 (each ws)) room result left

-- it may answer and leave this, and nothing else
pub record Joins (key stamp : ℕ) (room ws : List ℕ) (result : Joined) (left : List ℕ) : Type 0 where
  pub allowed : Allowed key stamp room ws result left
  pub only : (result' : Joined) (left' : List ℕ) → Allowed key stamp room ws result' left' → (result' ≡ result) × (left' ≡ left)

-- "secret 200, random word 100", any key, any stamp, any room for one byte
pub record WorkedNumbers (key stamp : ℕ) (room : List ℕ) : Type 0 where
  -- "share words of keepers 1..6 are 43, 143, 243, 86, 186, 29"
  pub c1 : shares (from 1 6) 1 (200 ∷ []) (100 ∷ []) ≡ each (43 ∷ 143 ∷ 243 ∷ 86 ∷ 186 ∷ 29 ∷ [])
  -- "all six, keeper 3's word made 0: need 5, answer 200, set 59"
  pub c2 : Joins key stamp room (43 ∷ 143 ∷ 0 ∷ 86 ∷ 186 ∷ 29 ∷ []) (answer 0 6 5 59 1) (200 ∷ [])
  -- "In C2 it is 1; with keeper 1 made 0 instead, it is 6": how many sets are tried
  pub c2_keeper_1 : Joins key stamp room (0 ∷ 143 ∷ 243 ∷ 86 ∷ 186 ∷ 29 ∷ []) (answer 0 6 5 62 6) (200 ∷ [])
  -- "keepers 3 and 4 made 0: 7"
  pub c3 : Joins key stamp room (43 ∷ 143 ∷ 0 ∷ 0 ∷ 186 ∷ 29 ∷ []) (answer 7 6 5 0 15) room
  -- "keepers 1..4 only, keeper 3 made 0: need 3, answer 200"
  pub c4 : Joins key stamp room (43 ∷ 143 ∷ 0 ∷ 86 ∷ []) (answer 0 4 3 11 1) (200 ∷ [])
  -- "keepers 1..3, unaltered: 200"
  pub c5 : Joins key stamp room (43 ∷ 143 ∷ 243 ∷ []) (answer 0 3 3 7 1) (200 ∷ [])
  -- "the same, keeper 3 made 0: 7"
  pub c6 : Joins key stamp room (43 ∷ 143 ∷ 0 ∷ []) (answer 7 3 3 0 3) room
  -- "keepers 1 and 2: 6"
  pub c7 : Joins key stamp room (43 ∷ 143 ∷ []) (answer 6 2 3 0 0) room
  -- "keepers 1..3 holding 0, 1, 2: 8"
  pub c8 : Joins key stamp room (0 ∷ 1 ∷ 2 ∷ []) (answer 8 3 3 7 1) room
  -- "random word 0: all six words are 200"
  pub c9 : shares (from 1 6) 1 (200 ∷ []) (0 ∷ []) ≡ each (replicate 6 200)
  -- "t=2, f=0, n=16, secret 5, random words 7, 11: keepers 1, 2, 3, 16 hold 23, 63, 125, 106"
  pub c10 : (lawful_order (record { t = 2; f = 0; n = 16 }) ≡ true) × (shares (1 ∷ 2 ∷ 3 ∷ 16 ∷ []) 2 (5 ∷ []) (7 ∷ 11 ∷ []) ≡ each (23 ∷ 63 ∷ 125 ∷ 106 ∷ []))
  -- "secret 0 with random word 200 gives keeper 2 the word 143, as secret 200 with 100 does; no other word does"
  pub c11 : (share_words mod257 1 2 (200 ∷ []) (100 ∷ []) ≡ 143 ∷ [])
      × ((word : ℕ) → word < 257 → (share_words mod257 1 2 (0 ∷ []) (word ∷ []) ≡ 143 ∷ []) ↔ (word ≡ 200))
  -- "a block with words 83, 2 and the rest 0 has check words 85 and 89"
  pub c12 : (plain_check (83 ∷ 2 ∷ replicate 252 0) ≡ 85) × (weighted_check (83 ∷ 2 ∷ replicate 252 0) ≡ 89)
