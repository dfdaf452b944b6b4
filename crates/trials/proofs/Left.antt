-- What the usable keepers that are left past keeper `next` leave to the count of the sets.
-- Assumes nothing.
use Prim.Native.Nat.{ℕ, suc, ◌+◌, ◌-◌, ◌^◌, ◌≤◌, ◌<◌}
use Rattle.std.specs.Prelude.{◌≡◌, true, false, cond, List, ◌∷◌, length}
use Rattle.std.proofs.Common.{ap, sym, ◌∙◌}
use Rattle.std.proofs.Math.Numerals.{add-one}
use native.Mathlib.Omega.{arith}
use Rattle.std.specs.Int.Count.{ones}
use Rattle.lists.specs.Chosen.{chosen, length-chosen}
use Rattle.lists.specs.Count.{bit, count, count_le_length}
use Rattle.lists.specs.From.{from, length_from}
use Rattle.lists.specs.KeeperSet.{member}
use Rattle.lists.specs.KeeperSetLaws.{ones-member}
use Rattle.trials.proofs.BinomialsLaws.{choose_most}
use Rattle.trials.specs.Lowest.{place}
use Rattle.trials.proofs.Lowest.{place_next, place_most}
use Rattle.trials.specs.Sets.{choose}
use Rattle.trials.specs.Left.{left, Counting, Met}

-- before the first keeper all that are usable are left
pub usable_many_lem : (usable : ℕ) → usable < 2 ^ 16 → ones usable ≡ length (chosen (member usable) (from 1 16))
usable_many_lem usable h = ones-member 16 usable h ∙ sym (length-chosen (member usable) (from 1 16))

module _ {usable set lack next many : ℕ} (C : Counting usable set lack next many) where
  left_most : length (left usable next) ≤ 16 - next
  left_most = omega (arith, length-chosen (member usable) (from (next + 1) (16 - next)), count_le_length (member usable) (from (next + 1) (16 - next)), length_from (next + 1) (16 - next))

  pub many_most : many ≤ 16
  many_most = omega (arith, left_most, C.size)

  -- who lacks a keeper has one left
  pub one_left : (lack ≡ 0 → ⊥) → next < 16
  one_left other = omega (arith, left_most, C.enough, count_le_length (member set) (left usable next))

  module _ (some : next < 16) where
    from_next : from (next + 1) (16 - next) ≡ (next + 1) ∷ from (next + 1 + 1) (16 - (next + 1))
    unfolding from
    from_next = let e : 16 - next ≡ suc (16 - (next + 1)) = omega arith in rw (e, add-one (next + 1))

    left_next : left usable next ≡ cond (member usable (next + 1)) ((next + 1) ∷ left usable (next + 1)) (left usable (next + 1))
    unfolding chosen
    left_next = rw from_next

    left_passed : member usable (next + 1) ≡ false → left usable next ≡ left usable (next + 1)
    left_passed e = left_next ∙ rw e

    -- a keeper that is not usable is passed by
    module _ (out : member usable (next + 1) ≡ false) where
      pub counting_passed : Counting usable set lack (next + 1) many
      counting_passed = record {
        small = C.small;
        bound = omega arith;
        size = C.size ∙ ap length (left_passed out);
        enough = rw (left_passed out) at C.enough;
      }

      pub place_passed : place (member set) (left usable (next + 1)) lack ≡ place (member set) (left usable next) lack
      place_passed = rw (left_passed out)

module _ {usable set lack next many : ℕ} (M : Met usable set lack next many) where
  some : next < 16
  some = one_left M.counting M.lacks

  left_first : left usable next ≡ (next + 1) ∷ left usable (next + 1)
  left_first = left_next M.counting some ∙ rw M.of

  fewer : many - 1 ≡ length (left usable (next + 1))
  fewer = omega (arith, M.counting.size, ap length left_first)

  pub many_some : 1 ≤ many
  many_some = omega (arith, M.counting.size, ap length left_first)

  enough_next : lack ≤ bit (member set (next + 1)) + count (member set) (left usable (next + 1))
  unfolding count
  enough_next = rw left_first at M.counting.enough

  place_here : place (member set) (left usable next) lack
      ≡ cond (member set (next + 1)) (place (member set) (left usable (next + 1)) (lack - 1)) (choose (length (left usable (next + 1))) (lack - 1) + place (member set) (left usable (next + 1)) lack)
  place_here = ap (λ (xs : List ℕ). place (member set) xs lack) left_first ∙ place_next (member set) (next + 1) (left usable (next + 1)) lack M.lacks

  -- a keeper of the set is included
  module _ (has : member set (next + 1) ≡ true) where
    pub counting_included : Counting usable set (lack - 1) (next + 1) (many - 1)
    counting_included = record {
      small = omega (arith, M.counting.small);
      bound = omega (arith, some);
      size = fewer;
      enough = omega (arith, enough_next, ap bit has);
    }

    pub place_included : place (member set) (left usable (next + 1)) (lack - 1) ≡ place (member set) (left usable next) lack
    place_included = sym (place_here ∙ rw has)

  -- another is skipped
  module _ (has : member set (next + 1) ≡ false) where
    pub counting_skipped : Counting usable set lack (next + 1) (many - 1)
    counting_skipped = record {
      small = M.counting.small;
      bound = omega (arith, some);
      size = fewer;
      enough = omega (arith, enough_next, ap bit has);
    }

    pub place_skipped : choose (many - 1) (lack - 1) + place (member set) (left usable (next + 1)) lack ≡ place (member set) (left usable next) lack
    place_skipped = sym (place_here ∙ rw (has, fewer))

    pub skipped_most : place (member set) (left usable (next + 1)) lack ≤ 12870
    skipped_most =
        let most = choose_most (length (left usable (next + 1))) lack (omega (arith, many_most M.counting, fewer)) M.counting.small in
        omega (arith, place_most (member set) (left usable (next + 1)) lack counting_skipped.enough)
