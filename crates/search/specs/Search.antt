-- One word of each letter: the keepers that match a polynomial there, and what a search for one finds.
-- Assumes nothing.
use Rattle.std.specs.Prelude.{ℕ, ◌+◌, ◌-◌, ◌^◌, ◌≤◌, ◌<◌, ◌≡◌, Bool, true, ◌&&◌, List, eqb, length, get_or}
use Rattle.std.specs.Int.Count.{ones}
use Rattle.lists.specs.Below.{Below}
use Rattle.lists.specs.Count.{count}
use Rattle.lists.specs.From.{from}
use Rattle.lists.specs.KeeperSet.{keeper_set}
use Rattle.lists.specs.Member.{In}
use Rattle.algebra.specs.Field.{Ops}
use Rattle.algebra.specs.Poly.{eval, Degree}
use Rattle.weigh.specs.Weigh.{carried}

-- a word of each keeper
pub record Words (words : List ℕ) : Type 0 where
  pub size : length words ≡ 16
  pub below : Below 257 words

-- the word of keeper x, where the words of keepers 1, 2, .. stand in their order
abbrev pub word : List ℕ → ℕ → ℕ
word words x = get_or words (x - 1) 0

-- the keepers of a set whose words y lie on a polynomial
abbrev pub matched : Ops → (ℕ → Bool) → (ℕ → ℕ) → List ℕ → ℕ → Bool
matched O among y p x = among x && eqb (eval O p x) (y x)

-- those whose words are what is carried to them from some points
abbrev pub carried_to : Ops → (ℕ → Bool) → (ℕ → ℕ) → List ℕ → ℕ → Bool
carried_to O among y xs x = among x && eqb (carried O xs y x) (y x)

module _ (O : Ops) (t n need : ℕ) (among : ℕ → Bool) (y : ℕ → ℕ) where
  -- a polynomial that enough keepers match, and the set of those that do
  pub record Matching (set : ℕ) : Type 0 where
    pub polynomial : List ℕ
    pub degree : Degree O t polynomial
    pub enough : need ≤ count (matched O among y polynomial) (from 1 n)
    pub matching : set ≡ keeper_set (matched O among y polynomial) n

  -- a set that was found, or the empty one only where no polynomial that gives hope is matched by enough
  pub record Finds (Hope : List ℕ → Type 0) (set : ℕ) : Type 0 where
    pub sound : (set ≡ 0 → ⊥) → Matching set
    pub complete : (p : List ℕ) → Degree O t p → need ≤ count (matched O among y p) (from 1 n) → Hope p → set ≡ 0 → ⊥

-- a polynomial that goes through the words of the keepers of a set
abbrev pub Through : Ops → ℕ → (ℕ → Bool) → (ℕ → ℕ) → List ℕ → Type 0
Through O n set y p = (x : ℕ) → In x (from 1 n) → set x ≡ true → eval O p x ≡ y x

-- a polynomial that the search past keeper `next` has not missed: the base is the keepers up to there that match it,
-- and of those that may still be skipped there are enough
pub record OnTrack (O : Ops) (n need : ℕ) (among : ℕ → Bool) (y : ℕ → ℕ) (base next skips : ℕ) (p : List ℕ) : Type 0 where
  pub so_far : base ≡ keeper_set (matched O among y p) next
  pub spare : count among (from 1 n) + ones base ≤ need + skips + count among (from 1 next)

-- what the search past keeper `next` finds
abbrev pub Searched : Ops → ℕ → ℕ → ℕ → (ℕ → Bool) → (ℕ → ℕ) → ℕ → ℕ → ℕ → ℕ → Type 0
Searched O t n need among y base next skips = Finds O t n need among y (OnTrack O n need among y base next skips)

-- what a search from the first keeper on finds: any polynomial that enough match
abbrev pub Narrows : Ops → ℕ → ℕ → ℕ → (ℕ → Bool) → (ℕ → ℕ) → ℕ → Type 0
Narrows O t n need among y = Finds O t n need among y (λ p. Unit {0})

-- what the search asks: a base of the keepers up to `next` that lacks so many of t + 1
pub record Sought (t need base lack next : ℕ) : Type 0 where
  pub small : t ≤ 7
  pub enough : t + 1 ≤ need
  pub before : base < 2 ^ next
  pub within : next ≤ 16
  pub lacks : lack + ones base ≡ t + 1
