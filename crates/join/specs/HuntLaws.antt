-- The sets that a join hunts through, and how many it counts, are said of the scan.
-- Assumes nothing.
use Rattle.std.specs.Prelude.{ℕ, ◌+◌, ◌≤◌, ◌<◌, ◌≡◌, Bool, true, false, List, length}
use Rattle.std.proofs.Common.{ap, ◌∙◌, arith}
use Rattle.lists.specs.Chosen.{chosen, chosen_same, chosen_in, chosen_passes, length-chosen}
use Rattle.lists.specs.Count.{count}
use Rattle.lists.specs.From.{from, from_in}
use Rattle.lists.specs.KeeperSetPast.{chosen-past}
use Rattle.lists.specs.Member.{In}
use Rattle.algebra.specs.Field.{Ops}
use Rattle.agree.specs.Agreement.{reaching}
use Rattle.agree.specs.PastLaws.{reaching-past}
use Rattle.agree.specs.ScanLaws.{SameScan, scan_reaching}
use Rattle.trials.specs.Each.{each_all, each_more}
use Rattle.trials.specs.Sets.{sets, choose, length-sets}
use Rattle.trials.specs.SetsLaws.{SetOf}
use Rattle.trials.proofs.SetsLaws.{sets_of}
use Rattle.trials.specs.Trials.{trials, trials_le, trials_same}
use Rattle.join.specs.Join.{hunt, hunted}

-- whoever is of a set that is tried is a usable keeper of 1..n
pub tried_usable : (n : ℕ) (us : ℕ → Bool) {k : ℕ} {z : List ℕ} → SetOf k (chosen us (from 1 n)) z → (x : ℕ) → In x z → (1 ≤ x) × (x ≤ n) × (us x ≡ true)
tried_usable n us s x m =
    let c = s.within x m in
    let b = from_in 1 n x (chosen_in us (from 1 n) x c) in
    (b.0, omega arith, chosen_passes us (from 1 n) x c)

-- the same scan, the same hunt
module _ {n l : ℕ} {us us' : ℕ → Bool} {word word' : ℕ → ℕ → ℕ} (S : SameScan n l us us' word word') where
  pub hunt_scan : (t : ℕ) → hunt t n us ≡ hunt t n us'
  hunt_scan t =
      ap (λ (xs : List ℕ). sets xs (t + 1))
      (chosen_same us us' (from 1 n) (λ x m. let h = from_in 1 n x m in S.same_usable x h.0 (omega arith)))

  pub hunted_scan : (O : Ops) (t f : ℕ) → hunted O t f n us word l ≡ hunted O t f n us' word' l
  hunted_scan O t f =
      trials_same (reaching O t f n us word l) (reaching O t f n us' word' l) (hunt t n us)
      (each_more (λ z s. scan_reaching S O t f z (tried_usable n us s)) (hunt t n us) (sets_of (chosen us (from 1 n)) (t + 1)))
      ∙ ap (trials (reaching O t f n us' word' l)) (hunt_scan t)

-- keepers past k, none of whom is usable, change nothing of it
module _ {k n : ℕ} {us : ℕ → Bool} (none : (x : ℕ) → k < x → us x ≡ false) (within : k ≤ n) where
  pub hunt-past : (t : ℕ) → hunt t n us ≡ hunt t k us
  hunt-past t = ap (λ (xs : List ℕ). sets xs (t + 1)) (chosen-past us k none n within)

  pub hunted-past : (O : Ops) (t f : ℕ) (word : ℕ → ℕ → ℕ) (l : ℕ) → hunted O t f n us word l ≡ hunted O t f k us word l
  hunted-past O t f word l =
      trials_same (reaching O t f n us word l) (reaching O t f k us word l) (hunt t n us) (each_all (reaching-past none within O t f word l) (hunt t n us))
      ∙ ap (trials (reaching O t f k us word l)) (hunt-past t)

-- "It never exceeds m choose t+1": the list has so many sets, and no more are counted
pub hunt_many : (t n : ℕ) (us : ℕ → Bool) → length (hunt t n us) ≡ choose (count us (from 1 n)) (t + 1)
hunt_many t n us = length-sets (chosen us (from 1 n)) (t + 1) ∙ ap (λ (m : ℕ). choose m (t + 1)) (length-chosen us (from 1 n))

pub hunted_most : (O : Ops) (t f n : ℕ) (us : ℕ → Bool) (word : ℕ → ℕ → ℕ) (l : ℕ) → hunted O t f n us word l ≤ choose (count us (from 1 n)) (t + 1)
hunted_most O t f n us word l = omega (arith, trials_le (reaching O t f n us word l) (hunt t n us), hunt_many t n us)
