-- The first of the sets that lie within another set: the lowest numbers of that, and how many are tried up to it.
-- Assumes nothing.
use Rattle.std.specs.Prelude.{ℕ, zero, suc, ◌+◌, ◌-◌, ◌≤◌, ◌≡◌, refl, Bool, true, false, cond, take}
use Rattle.std.proofs.Common.{ap, sym, ◌∙◌, inl, inr, sub-one, arith}
use mathlib.Core.List.{List, [], ◌∷◌, map}
use Rattle.std.proofs.Math.ListN.{length, length-map}
use Rattle.lists.specs.Chosen.{chosen}
use Rattle.lists.specs.Count.{bit, count, count_all}
use Rattle.lists.specs.Member.{In}
use Rattle.trials.specs.Each.{each_all, each_map}
use Rattle.trials.specs.Sets.{sets, choose, length-sets}
use Rattle.trials.specs.Trials.{trials, FirstGood, here, first_trials, first_same, trials_le, first_front, first_past, first_mapped}
use Rattle.trials.specs.Within.{within}
use Rattle.trials.specs.Lowest.{place}

-- a set that lacks none is found
pub place_done : (a : ℕ → Bool) (xs : List ℕ) (k : ℕ) → k ≡ 0 → 1 ≡ place a xs k
unfolding place
place_done a [] k e = refl
place_done a (x ∷ xs) k e = rw e

-- the same of a list with a next number, for a set that lacks some
pub place_next : (a : ℕ → Bool) (x : ℕ) (xs : List ℕ) (k : ℕ) → (k ≡ 0 → ⊥)
    → place a (x ∷ xs) k ≡ cond (a x) (place a xs (k - 1)) (choose (length xs) (k - 1) + place a xs k)
unfolding place
place_next a x xs zero other = absurd (other refl)
place_next a x xs (suc k) other = rw sub-one

module _ (a : ℕ → Bool) (x : ℕ) (xs : List ℕ) (k : ℕ) where
  abbrev LowestFirst : List ℕ → ℕ → Type 0
  LowestFirst ys j = FirstGood (within a) (sets ys j) (take j (chosen a ys)) (place a ys j)

  -- the next number passes: the sets that have it come first, and the first of them that lies within is the lowest
  included : a x ≡ true → LowestFirst xs k → LowestFirst (x ∷ xs) (suc k)
  unfolding sets within place chosen
  included e h = rw e (first_front (sets xs (suc k)) (first_mapped (λ z. x ∷ z) (first_same (each_all (λ z. rw e) (sets xs k)) h)))

  -- it does not: none of the sets that have it lies within
  skipped : a x ≡ false → LowestFirst xs (suc k) → LowestFirst (x ∷ xs) (suc k)
  unfolding sets within place chosen
  skipped e h =
      let many : length (map (λ (z : List ℕ). x ∷ z) (sets xs k)) ≡ choose (length xs) k = length-map (sets xs k) (λ z. x ∷ z) ∙ length-sets xs k in
      rw (e, ← many) (first_past (map (λ z. x ∷ z) (sets xs k)) (each_map (λ w. within a w ≡ false) (λ z. x ∷ z) (sets xs k) (each_all (λ z. rw e) (sets xs k))) h)

-- the first set that lies within is the lowest numbers that pass
pub first_within : (a : ℕ → Bool) (xs : List ℕ) (k : ℕ) → k ≤ count a xs → FirstGood (within a) (sets xs k) (take k (chosen a xs)) (place a xs k)
unfolding sets within place chosen count
first_within a [] zero h = here refl
first_within a [] (suc k) h = absurd (omega arith)
first_within a (x ∷ xs) zero h = here refl
first_within a (x ∷ xs) (suc k) h = step (a x) refl (first_within a xs k) (first_within a xs (suc k))
  where
    step : (b : Bool) → a x ≡ b → (k ≤ count a xs → LowestFirst a x xs k xs k) → (suc k ≤ count a xs → LowestFirst a x xs k xs (suc k)) → LowestFirst a x xs k (x ∷ xs) (suc k)
    step true e with_it without = included a x xs k e (with_it (omega (arith, ap bit e)))
    step false e with_it without = skipped a x xs k e (without (omega (arith, ap bit e)))

-- where every number passes, the first set lies within
place_all : (a : ℕ → Bool) (xs : List ℕ) (k : ℕ) → ((x : ℕ) → In x xs → a x ≡ true) → place a xs k ≡ 1
unfolding place
place_all a [] k h = refl
place_all a (x ∷ xs) zero h = refl
place_all a (x ∷ xs) (suc k) h = rw (h x (inl refl)) (place_all a xs k (λ y m. h y (inr m)))

pub place-trials : (a : ℕ → Bool) (xs : List ℕ) (k : ℕ) → k ≤ count a xs → place a xs k ≡ trials (within a) (sets xs k)
place-trials a xs k h = sym (first_trials (first_within a xs k h))

pub place_most : (a : ℕ → Bool) (xs : List ℕ) (k : ℕ) → k ≤ count a xs → place a xs k ≤ choose (length xs) k
place_most a xs k h = omega (arith, place-trials a xs k h, trials_le (within a) (sets xs k), length-sets xs k)

pub all_within : (a : ℕ → Bool) (xs : List ℕ) (k : ℕ) → ((x : ℕ) → In x xs → a x ≡ true) → k ≤ length xs → trials (within a) (sets xs k) ≡ 1
all_within a xs k h many = sym (place-trials a xs k (omega (arith, count_all a xs h))) ∙ place_all a xs k h
