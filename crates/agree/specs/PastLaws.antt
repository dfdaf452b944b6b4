-- Keepers past k, none of whom is usable, change nothing of the agreement.
-- Assumes nothing.
use Rattle.std.specs.Prelude.{ℕ, ◌≤◌, ◌<◌, ◌≡◌, Bool, false, List}
use Rattle.std.proofs.Common.{ap, arith}
use Rattle.std.proofs.Math.Path.{ap₂}
use Rattle.std.proofs.Math.Dec.{leb}
use Rattle.lists.specs.Count.{count}
use Rattle.lists.specs.From.{from}
use Rattle.lists.specs.KeeperSet.{keeper_set}
use Rattle.lists.specs.KeeperSetPast.{keeper_set-past, count_past}
use Rattle.algebra.specs.Agreement.{need}
use Rattle.algebra.specs.Field.{Ops}
use Rattle.agree.specs.Agreement.{agreeing, needed, polynomials_of, reaching, Reaches}

module _ {k n : ℕ} {usable : ℕ → Bool} (none : (x : ℕ) → k < x → usable x ≡ false) (within : k ≤ n) where
  needed-past : (t f : ℕ) → needed t f n usable ≡ needed t f k usable
  needed-past t f = ap (λ (m : ℕ). need m t f) (count_past usable k none n within)

  module _ (O : Ops) (word : ℕ → ℕ → ℕ) (l : ℕ) (ps : List (List ℕ)) where
    none_agree : (x : ℕ) → k < x → agreeing O usable word l ps x ≡ false
    none_agree x h = rw (none x h)

    pub agreeing-past : keeper_set (agreeing O usable word l ps) n ≡ keeper_set (agreeing O usable word l ps) k
    agreeing-past = keeper_set-past (agreeing O usable word l ps) k none_agree n within

    many_agree : count (agreeing O usable word l ps) (from 1 n) ≡ count (agreeing O usable word l ps) (from 1 k)
    many_agree = count_past (agreeing O usable word l ps) k none_agree n within

    module _ (t f : ℕ) where
      pub reaches_within : Reaches O t f n usable word l ps → Reaches O t f k usable word l ps
      reaches_within R = record { polynomials = R.polynomials; enough = omega (arith, R.enough, needed-past t f, many_agree) }

      pub reaches_past : Reaches O t f k usable word l ps → Reaches O t f n usable word l ps
      reaches_past R = record { polynomials = R.polynomials; enough = omega (arith, R.enough, needed-past t f, many_agree) }

  pub reaching-past : (O : Ops) (t f : ℕ) (word : ℕ → ℕ → ℕ) (l : ℕ) (xs : List ℕ) → reaching O t f n usable word l xs ≡ reaching O t f k usable word l xs
  unfolding reaching
  reaching-past O t f word l xs = ap₂ leb (needed-past t f) (many_agree O word l (polynomials_of O word l xs))
