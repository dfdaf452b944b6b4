-- The size of a rank's group, as the count of the ranks that are that rank.
-- Assumes nothing.
use Rattle.std.proofs.Common.{ℕ, zero, suc, ◌+◌, ◌-◌, ◌≤◌, ◌≡◌, ◌==◌, refl, ap, ◌∙◌, Bool, true, false, cond, eqb, List, length, get_or, take, filter, count_by, arith, take_all}
use native.Mathlib.Nat.{add-sub_cancel}
use Rattle.std.proofs.lemmas.List.Filters.{length-filter_more}
use Rattle.std.proofs.lemmas.List.Sums.{length-filter}
use Rattle.lists.specs.Count.{bit, count}
use Rattle.lists.specs.From.{from}
use Rattle.lists.specs.Rising.{count_next}
use Rattle.pick.specs.Ranks.{size_of}

bit-cond : (b : Bool) → bit b ≡ cond b 1 0
bit-cond true = refl
bit-cond false = refl

module _ (ranks : List ℕ) (rank : ℕ) where
  size_next : (k : ℕ) → size_of ranks (k + 1) rank ≡ bit (eqb (get_or ranks k 0) rank) + size_of ranks k rank
  unfolding size_of
  size_next k = count_next (λ x. eqb (get_or ranks (x - 1) 0) rank) k _ (ap (λ i. eqb (get_or ranks i 0) rank) (add-sub_cancel k 1))

  size_taken : (k : ℕ) → k ≤ length ranks → size_of ranks k rank ≡ length (filter (λ x. eqb x rank) (take k ranks))
  unfolding size_of count from
  size_taken zero h = refl
  size_taken (suc k) h =
      let more : size_of ranks (k + 1) rank ≡ length (filter (λ x. eqb x rank) (take (k + 1) ranks)) =
      omega (arith, size_taken k (omega arith), size_next k, length-filter_more (λ x. eqb x rank) ranks k 0 (omega arith), bit-cond (eqb (get_or ranks k 0) rank)) in
      let next : k + 1 ≡ suc k = omega arith in
      rw next at more

  pub size-count : size_of ranks (length ranks) rank ≡ count_by (λ x. x == rank) ranks
  size-count =
      size_taken (length ranks) (omega arith)
      ∙ (ap (λ (xs : List ℕ). length (filter (λ x. eqb x rank) xs)) (take_all (length ranks) ranks (omega arith)) ∙ length-filter (λ x. eqb x rank) ranks)
