-- The first t + 1 keepers of a set: the points from which the others' words are carried.
-- Assumes nothing.
use Rattle.std.specs.Prelude.{ℕ, suc, ◌+◌, ◌≤◌, ◌<◌, ◌≡◌, Bool, true, List, length, get_or, take}
use Rattle.std.proofs.Common.{ap, ◌∙◌, subst, add-one, arith, length-take-le, get_or-take}
use Rattle.std.proofs.Math.Path.{subst⁻¹}
use Rattle.lists.specs.Chosen.{chosen, length-chosen, chosen_in, chosen_passes}
use Rattle.lists.specs.Count.{count}
use Rattle.lists.specs.From.{from, from_in}
use Rattle.lists.specs.Member.{In, in_get_d, in_take}
use Rattle.lists.specs.Rising.{in_chosen_first}
use Rattle.algebra.specs.Points.{Points, points_chosen, points_from, points_take}
use Rattle.weigh.specs.Weigh.{Keepers}

pub record Base (t n : ℕ) (set : ℕ → Bool) (xs : List ℕ) : Type 0 where
  pub enough : t + 1 ≤ count set (from 1 n)
  pub first : xs ≡ take (t + 1) (chosen set (from 1 n))

module _ {t n : ℕ} {set : ℕ → Bool} {xs : List ℕ} (base : Base t n set xs) where
  long : t < length (chosen set (from 1 n))
  long = omega (arith, base.enough, length-chosen set (from 1 n))

  pub base_length : length xs ≡ suc t
  base_length = ap length base.first ∙ length-take-le (t + 1) (chosen set (from 1 n)) (omega (arith, long)) ∙ add-one t

  base_in : (x : ℕ) → In x xs → In x (chosen set (from 1 n))
  base_in x m = in_take (t + 1) x (chosen set (from 1 n)) (subst (In x) base.first m)

  pub base_passes : (x : ℕ) → In x xs → set x ≡ true
  base_passes x m = chosen_passes set (from 1 n) x (base_in x m)

  pub base_within : (x : ℕ) → In x xs → In x (from 1 n)
  base_within x m = chosen_in set (from 1 n) x (base_in x m)

  pub base_points : {q : ℕ} → Points q (from 1 n) → Points q xs
  base_points {q} P = subst⁻¹ (Points q) base.first (points_take (t + 1) (points_chosen set P))

  -- a keeper of the set up to the last of the base is of the base
  pub base_first : (x : ℕ) → 1 ≤ x → x ≤ get_or xs t 0 → set x ≡ true → In x xs
  base_first x l g e =
      let last : get_or xs t 0 ≡ get_or (chosen set (from 1 n)) t 0 = rw base.first (get_or-take (t + 1) (chosen set (from 1 n)) t 0 (omega arith)) in
      subst⁻¹ (In x) base.first (rw (add-one t) (in_chosen_first set n t x long l (omega arith) e))

-- the keepers 1..16 as points
pub keeper_points : Points 257 (from 1 16)
keeper_points = points_from 257 1 16 (omega arith)

pub base_keepers : {t : ℕ} {set : ℕ → Bool} {xs : List ℕ} → Base t 16 set xs → Keepers xs
base_keepers {t} {set} {xs} base i h = let b = from_in 1 16 (get_or xs i 0) (base_within base (get_or xs i 0) (in_get_d xs i h)) in (b.0, omega arith)
