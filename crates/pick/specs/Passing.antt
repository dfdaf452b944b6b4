-- A keeper who passes a test, where some do.
-- Assumes nothing.
use Rattle.std.specs.Prelude.{ℕ, ◌+◌, ◌-◌, ◌≤◌, ◌<◌, ◌≡◌, Bool, true, get_or}
use Rattle.std.proofs.Common.{ap, ◌∙◌, arith}
use Rattle.lists.specs.Chosen.{chosen, length-chosen, chosen_in, chosen_passes}
use Rattle.lists.specs.Count.{count}
use Rattle.lists.specs.From.{from, from_in}
use Rattle.lists.specs.Member.{in_get_d}

-- a keeper of 1..n that passes, by the place of its slot
pub record Passing (test : ℕ → Bool) (n : ℕ) : Type 0 where
  pub place : ℕ
  pub within : place < n
  pub passes : test (place + 1) ≡ true

pub some_passing : (test : ℕ → Bool) (n : ℕ) → 1 ≤ count test (from 1 n) → Passing test n
some_passing test n some =
    let who = chosen test (from 1 n) in
    let x = get_or who 0 0 in
    let here = in_get_d who 0 (omega (arith, length-chosen test (from 1 n))) in
    let facts = from_in 1 n x (chosen_in test (from 1 n) x here) in
    let keeper : x - 1 + 1 ≡ x = omega arith in
    record { place = x - 1; within = omega arith; passes = ap test keeper ∙ chosen_passes test (from 1 n) x here }
