-- The rule of the table of binomials, tested once over all entries, and what that says of each.
-- Assumes nothing.
use Rattle.std.specs.Prelude.{ℕ, ◌+◌, ◌*◌, ◌/◌, ◌%◌, ◌≤◌, ◌<◌, ◌≡◌, refl, Bool, true, ◌&&◌, leb, eqb, get_or}
use Rattle.std.proofs.Common.{ap₂, ◌∙◌, arith, leb-true, eqb-true}
use Rattle.std.proofs.Math.Bool.{and-eq-true_iff}
use Rattle.lists.specs.Every.{every, every-at}
use Rattle.trials.specs.Sets.{choose}
use Rattle.trials.specs.Binomials.{binomials}

-- "at most 12,870"
abbrev is_binomial : ℕ → ℕ → Bool
is_binomial i entry = eqb entry (choose (i / 9) (i % 9)) && leb entry 12870

tested : every is_binomial 0 binomials ≡ true
unfolding binomials choose
tested = refl

at_place : (i : ℕ) → i < 153 → (eqb (get_or binomials i 0) (choose (i / 9) (i % 9)) ≡ true) × (leb (get_or binomials i 0) 12870 ≡ true)
unfolding binomials
at_place i h = (and-eq-true_iff _ _).0 (every-at is_binomial binomials tested i h)

module _ (m k : ℕ) (hm : m ≤ 16) (hk : k ≤ 8) where
  row : (9 * m + k) / 9 ≡ m
  row = omega arith

  column : (9 * m + k) % 9 ≡ k
  column = omega arith

  pub binomial_at : get_or binomials (9 * m + k) 0 ≡ choose m k
  binomial_at = eqb-true _ _ (at_place (9 * m + k) (omega arith)).0 ∙ ap₂ choose row column

  pub entry_most : get_or binomials (9 * m + k) 0 ≤ 12870
  entry_most = leb-true _ _ (at_place (9 * m + k) (omega arith)).1

  -- "It never exceeds m choose t+1, at most 12,870"
  pub choose_most : choose m k ≤ 12870
  choose_most = omega (arith, entry_most, binomial_at)
