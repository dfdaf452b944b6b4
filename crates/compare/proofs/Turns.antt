-- Going through the words of a part: how many of the first j pass a test.
-- Assumes nothing.
use Prim.Native.Nat.{ℕ, ◌+◌, ◌<◌, ◌≤◌}
use mathlib.Core.Path.{◌≡◌, refl, ◌∙◌}
use mathlib.Core.Bool.{Bool, true, false}
use native.Mathlib.Omega.{arith}
use lib.ListN.{length, length-append}
use Rattle.lists.specs.Chosen.{chosen}
use Rattle.lists.specs.ChosenFrom.{chosen_joined, chosen_skipped, chosen_most}
use Rattle.lists.specs.From.{from}

-- of the numbers from a on, j are looked at
pub record CountedTo (f : ℕ → Bool) (a j count : ℕ) : Type 0 where
  pub within : j ≤ 8
  pub counted : count ≡ length (chosen f (from a j))

module _ {f : ℕ → Bool} {a : ℕ} where
  pub counted_none : CountedTo f a 0 0
  unfolding from chosen
  counted_none = record { within = omega arith; counted = refl }

  module _ {j count : ℕ} (before : CountedTo f a j count) where
    pub counted_most : count ≤ j
    counted_most = omega (arith, chosen_most f a j, before.counted)

    pub counted_joined : {next : ℕ} → j < 8 → f (a + j) ≡ true → next ≡ count + 1 → CountedTo f a (j + 1) next
    counted_joined h e n = record { within = omega arith; counted = rw (chosen_joined f a j e, length-append) (omega (arith, before.counted)) }

    pub counted_skipped : {next : ℕ} → j < 8 → f (a + j) ≡ false → next ≡ count → CountedTo f a (j + 1) next
    counted_skipped h e n = record { within = omega arith; counted = rw (chosen_skipped f a j e) (n ∙ before.counted) }
