-- Random words that give keepers the share words that other constants gave them.
-- Assumes nothing.
use Rattle.std.specs.Prelude.{ℕ, ◌*◌, ◌≡◌, length}
use mathlib.Core.List.{List}
use Rattle.lists.specs.Below.{Below}
use Rattle.lists.specs.Member.{In}
use Rattle.algebra.specs.Field.{Ops}
use Rattle.shares.specs.Shares.{share_words}

-- random words for the constants with which each of the keepers ks gets what it has
pub record GivesSame (O : Ops) (t : ℕ) (ks constants : List ℕ) (gets : List ℕ → ℕ → List ℕ) (has : ℕ → List ℕ) (random : List ℕ) : Type 0 where
  pub size : length random ≡ length constants * t
  pub below : Below O.q random
  pub same : (x : ℕ) → In x ks → gets random x ≡ has x

-- those for constants' that give the keepers the share words that random gives them for constants
abbrev pub SameShares : Ops → ℕ → List ℕ → List ℕ → List ℕ → List ℕ → List ℕ → Type 0
SameShares O t ks constants random constants' random' =
    GivesSame O t ks constants' (λ words x. share_words O t x constants' words) (λ x. share_words O t x constants random) random'
