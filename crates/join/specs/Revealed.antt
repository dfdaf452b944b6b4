-- What is left of the constants that a set of keepers agrees on: the secret, if each of them is a byte.
-- Assumes nothing.
use Rattle.std.specs.Prelude.{ℕ, ◌≡◌, Bool, true, false, cond, List, length}
use Rattle.lists.specs.KeeperSet.{keeper_set}
use Rattle.algebra.specs.Field.{Ops}
use Rattle.block.specs.Check.{all_at_most}
use Rattle.agree.specs.Agreement.{agreeing, Reaches, constants}
use Rattle.agree.specs.Recovers.{Recovers}

-- the number, and the room as it is left: 0 and the constants where they are bytes, or 8 and the room as it was
pub record Revealed (constants room : List ℕ) (number : ℕ) (left : List ℕ) : Type 0 where
  pub answers : number ≡ cond (all_at_most 255 constants) 0 8
  pub leaves : left ≡ cond (all_at_most 255 constants) constants room

-- of the constants of whatever polynomials reach need, where the set is that of the keepers that match them
abbrev pub Reveals : Ops → ℕ → ℕ → ℕ → (ℕ → ℕ → ℕ) → List ℕ → ℕ → List ℕ → Type 0
Reveals O t n set words room number left =
    (f : ℕ) (usable : ℕ → Bool) (ps : List (List ℕ)) → Reaches O t f n usable words (length room) ps
    → set ≡ keeper_set (agreeing O usable words (length room) ps) n → Revealed (constants ps) room number left

module _ {O : Ops} {t n set : ℕ} {words : ℕ → ℕ → ℕ} (row room : List ℕ) (recovers : Recovers O t n set words (length room) row) where
  reveals : (number : ℕ) (left : List ℕ) → Revealed row room number left → Reveals O t n set words room number left
  reveals number left o f usable ps R e = rw (recovers f usable ps R e) at o

  pub reveals_bytes : all_at_most 255 row ≡ true → (left : List ℕ) → left ≡ row → Reveals O t n set words room 0 left
  reveals_bytes e left s = reveals 0 left (record { answers = rw e; leaves = rw e s })

  pub reveals_wide : all_at_most 255 row ≡ false → Reveals O t n set words room 8 room
  reveals_wide e = reveals 8 room (record { answers = rw e; leaves = rw e })
