-- The numbers from a on that pass a test, one more at a time.
-- Assumes nothing.
use Rattle.std.specs.Prelude.{ℕ, ◌+◌, ◌-◌, ◌≤◌, ◌≡◌, Bool, true, false, [], ◌∷◌, ◌++◌, length}
use Rattle.std.proofs.Common.{◌∙◌, append-nil, add-one, arith, length-append}
use Rattle.lists.specs.Chosen.{chosen, chosen-append, length-chosen}
use Rattle.lists.specs.Count.{count_le_length}
use Rattle.lists.specs.From.{from, from_suc, from-add, length_from}

module _ (f : ℕ → Bool) (a : ℕ) where
  one_more : (k : ℕ) → chosen f (from a (k + 1)) ≡ chosen f (from a k) ++ chosen f ((a + k) ∷ [])
  one_more k = rw (add-one, from_suc a k) (chosen-append f (from a k) ((a + k) ∷ []))

  pub chosen_joined : (k : ℕ) → f (a + k) ≡ true → chosen f (from a (k + 1)) ≡ chosen f (from a k) ++ ((a + k) ∷ [])
  unfolding chosen
  chosen_joined k e = one_more k ∙ rw e

  pub chosen_skipped : (k : ℕ) → f (a + k) ≡ false → chosen f (from a (k + 1)) ≡ chosen f (from a k)
  unfolding chosen
  chosen_skipped k e = one_more k ∙ rw (e, append-nil)

  pub chosen_most : (k : ℕ) → length (chosen f (from a k)) ≤ k
  chosen_most k = omega (arith, length-chosen f (from a k), count_le_length f (from a k), length_from a k)

  further : (k d : ℕ) → length (chosen f (from a k)) ≤ length (chosen f (from a (k + d)))
  further k d = rw (from-add a k d, chosen-append f (from a k) (from (a + k) d), length-append) (omega arith)

  pub chosen_up_to : (k m : ℕ) → k ≤ m → length (chosen f (from a k)) ≤ length (chosen f (from a m))
  chosen_up_to k m h = let whole : k + (m - k) ≡ m = omega arith in rw whole at (further k (m - k))
