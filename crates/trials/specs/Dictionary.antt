-- Lists that stand in dictionary order.
-- Assumes nothing.
use Rattle.std.specs.Prelude.{ℕ, ◌<◌, ◌≡◌, List, [], ◌∷◌, ◌⊎◌}
use Rattle.lists.specs.Member.{In}
use Rattle.trials.specs.Each.{Each}

-- each number is lower than all behind it
abbrev pub Rising : List ℕ → Type 0
Rising [] = Unit {0}
Rising (x ∷ xs) = ((y : ℕ) → In y xs → x < y) × Rising xs

-- in a dictionary the first number that differs decides
pub data Before : List ℕ → List ℕ → Type 0 where
  lower : {x y : ℕ} {z w : List ℕ} → x < y → Before (x ∷ z) (y ∷ w)
  alike : {x : ℕ} {z w : List ℕ} → Before z w → Before (x ∷ z) (x ∷ w)

-- each comes before all behind it
abbrev pub Dictionary : List (List ℕ) → Type 0
Dictionary [] = Unit {0}
Dictionary (z ∷ zs) = Each (Before z) zs × Dictionary zs

-- z is one of some lists
abbrev pub OneOf : List ℕ → List (List ℕ) → Type 0
OneOf z [] = ⊥
OneOf z (w ∷ ws) = (z ≡ w) ⊎ OneOf z ws
