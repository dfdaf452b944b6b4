-- What the join answers, and what it leaves in the room lent.
-- Assumes nothing.
use Rattle.std.specs.Prelude.{ℕ, ◌+◌, ◌*◌, ◌≤◌, ◌<◌, ◌≡◌, Bool, true, false, cond, ◌&&◌, List, eqb, length}
use Rattle.lists.specs.Chosen.{chosen}
use Rattle.lists.specs.Count.{count}
use Rattle.lists.specs.From.{from}
use Rattle.lists.specs.KeeperSet.{keeper_set}
use Rattle.algebra.specs.Field.{Ops}
use Rattle.block.specs.Check.{all_at_most}
use Rattle.refusals.specs.Numbers.{code_of}
use Rattle.header.specs.declared.told.Told.{Told}
use Rattle.header.specs.FirstOf.{first_of}
use Rattle.header.specs.Terms.{terms_number}
use Rattle.tray.specs.Tray.{usable, word_of}
use Rattle.agree.specs.Agreement.{agreeing, needed, reaching, Reaches, constants}
use Rattle.trials.specs.Sets.{sets}
use Rattle.trials.specs.Trials.{trials}
use Rattle.join.specs.declared.Joined.{Joined as Found}

-- the refusals that need no letter: 1, 2, 3 of what is told, the key with the order, then 4 of what is lent
unfoldable pub join_refusal : Told → ℕ → ℕ → List ℕ → List ℕ → ℕ
join_refusal told stamp l tray room =
    first_of (terms_number told stamp l) (cond (eqb (length tray) (2048 * told.order.n) && eqb (length room) l) 0 4)

-- "The result has the number, m, need, and the keepers that match as a 16-bit set"; "its result gets a count of trials"
pub record Joined : Type 0 where
  pub number : ℕ
  pub usable : ℕ
  pub need : ℕ
  pub set : ℕ
  pub trials : ℕ

-- what the join found, as that
abbrev pub joined_of : Found → Joined
joined_of r = record { number = code_of r.outcome; usable = r.usable; need = r.need; set = r.set.bits; trials = r.trials }

-- the same, number by number
abbrev pub answer : ℕ → ℕ → ℕ → ℕ → ℕ → Joined
answer number m need set trials = record { number = number; usable = m; need = need; set = set; trials = trials }

-- "Sets of t+1 usable keepers are taken in dictionary order of rising keeper numbers."
abbrev pub hunt : ℕ → ℕ → (ℕ → Bool) → List (List ℕ)
hunt t n us = sets (chosen us (from 1 n)) (t + 1)

-- "It counts the sets up to and including the first whose polynomials match at least need letters"
abbrev pub hunted : Ops → ℕ → ℕ → ℕ → (ℕ → Bool) → (ℕ → ℕ → ℕ) → ℕ → ℕ
hunted O t f n us word l = trials (reaching O t f n us word l) (hunt t n us)

-- Of the usable letters: too few; enough, but no polynomials reach need; polynomials that do, with a constant that is no byte; or with bytes
-- alone, and these are the secret. "Only 0 writes the secret." Of trials: "for 7 it is all such sets, for 1..6 it is 0".
pub data Outcome (O : Ops) (t f n : ℕ) (us : ℕ → Bool) (word : ℕ → ℕ → ℕ) (l : ℕ) (room : List ℕ) : Joined → List ℕ → Type 0 where
  few : count us (from 1 n) < t + f + 1
      → Outcome O t f n us word l room (answer 6 (count us (from 1 n)) (needed t f n us) 0 0) room
  apart : t + f + 1 ≤ count us (from 1 n) → ((ps : List (List ℕ)) → Reaches O t f n us word l ps → ⊥)
      → Outcome O t f n us word l room (answer 7 (count us (from 1 n)) (needed t f n us) 0 (length (hunt t n us))) room
  wide : (ps : List (List ℕ)) → Reaches O t f n us word l ps → all_at_most 255 (constants ps) ≡ false
      → Outcome O t f n us word l room (answer 8 (count us (from 1 n)) (needed t f n us) (keeper_set (agreeing O us word l ps) n) (hunted O t f n us word l)) room
  joined : (ps : List (List ℕ)) → Reaches O t f n us word l ps → all_at_most 255 (constants ps) ≡ true
      → Outcome O t f n us word l room (answer 0 (count us (from 1 n)) (needed t f n us) (keeper_set (agreeing O us word l ps) n) (hunted O t f n us word l)) (constants ps)

-- the join's promise: a refusal, or the outcome of the usable letters
pub data JoinDone (O : Ops) (told : Told) (stamp l : ℕ) (tray room : List ℕ) : Joined → List ℕ → Type 0 where
  refused : (join_refusal told stamp l tray room ≡ 0 → ⊥)
      → JoinDone O told stamp l tray room (answer (join_refusal told stamp l tray room) 0 0 0 0) room
  judged : {result : Joined} {left : List ℕ} → join_refusal told stamp l tray room ≡ 0
      → Outcome O told.order.t told.order.f told.order.n (usable told stamp l tray) (word_of tray l) l room result left
      → JoinDone O told stamp l tray room result left
