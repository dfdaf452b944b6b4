-- The first t + 1 keepers of a base, tried: the keepers that match the polynomial through their words, if they are enough.
-- Assumes nothing.
use Prim.Native.Nat.{ℕ, ◌≤◌, ◌<◌}
use Rattle.std.specs.Prelude.{◌≡◌, Bool, ◌&&◌, eqb}
use Rattle.std.proofs.Common.{ap, ◌∙◌, arith}
use mathlib.Core.List.{List}
use Rattle.std.specs.Int.Count.{ones}
use Rattle.lists.specs.Count.{count}
use Rattle.lists.specs.From.{from}
use Rattle.lists.specs.KeeperSet.{keeper_set}
use Rattle.lists.specs.KeeperSetLaws.{keeper_set_same, ones-keeper_set}
use Rattle.lists.specs.Member.{In}
use Rattle.algebra.specs.Field.{Ops, IsField}
use Rattle.algebra.specs.Interpolate.{interpolate, eval-interpolate}
use Rattle.algebra.specs.Points.{Points}
use Rattle.algebra.specs.Poly.{eval, Degree}
use Rattle.search.specs.Base.{Base, base_length, base_passes, base_within, base_points}
use Rattle.search.specs.Carried.{carried_on, through_degree}
use Rattle.search.specs.Finds.{finds_some, finds_none}
use Rattle.search.specs.Search.{matched, carried_to, Finds, Through}

-- the base's first t + 1 keepers, and the set whose words are those carried from them
pub record Tried (O : Ops) (t n need : ℕ) (among base : ℕ → Bool) (y : ℕ → ℕ) (set : ℕ) : Type 0 where
  pub points : List ℕ
  pub first : Base t n base points
  pub carries : set ≡ keeper_set (carried_to O among y points) n
  pub below : (x : ℕ) → y x < O.q
  pub positive : 1 ≤ need

module _ {O : Ops} (F : IsField O) {t n need : ℕ} {among base : ℕ → Bool} {y : ℕ → ℕ} {set : ℕ} (P : Points O.q (from 1 n)) (T : Tried O t n need among base y set) where
  -- on a polynomial through the base's words, the set is that of the keepers that match it
  module _ (p : List ℕ) (d : Degree O t p) (on : (a : ℕ) → In a T.points → eval O p a ≡ y a) where
    set-matched : set ≡ keeper_set (matched O among y p) n
    set-matched =
        T.carries ∙ keeper_set_same (carried_to O among y T.points) (matched O among y p) n
        (λ x l h. ap (λ (v : ℕ). among x && eqb v (y x)) (carried_on F t T.points y (base_points T.first P) p d (omega (arith, base_length T.first)) on x))

    ones-matched : ones set ≡ count (matched O among y p) (from 1 n)
    ones-matched = ap ones set-matched ∙ ones-keeper_set (matched O among y p) n

  pub tried_enough : need ≤ ones set → Finds O t n need among y (Through O n base y) set
  unfolding ones
  tried_enough l =
      finds_some (λ e. let z : need ≤ ones 0 = rw e at l in omega arith)
      (record { polynomial = p; degree = d; enough = omega (arith, ones-matched p d on); matching = set-matched p d on })
    where
      p : List ℕ
      p = interpolate O T.points y

      d : Degree O t p
      d = through_degree F t T.points y (base_points T.first P) (base_length T.first) (λ a m. T.below a)

      on : (a : ℕ) → In a T.points → eval O p a ≡ y a
      on = eval-interpolate F T.points y (base_points T.first P) (λ a m. T.below a)

  pub tried_short : ones set < need → Finds O t n need among y (Through O n base y) 0
  tried_short l = finds_none (λ p d h on. omega (arith, ones-matched p d (λ a m. on a (base_within T.first a m) (base_passes T.first a m))))
