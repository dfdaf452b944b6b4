-- What it says that a keeper agrees: it is usable, and each of its words lies on its polynomial.
-- Assumes nothing.
use Rattle.std.specs.Prelude.{ℕ, ◌<◌, ◌≡◌, Bool, true, List, [], get_or}
use Rattle.std.proofs.Math.Bool.{and-eq-true_iff}
use Rattle.std.proofs.Math.Dec.{eqb}
use borrow.Author.Tests.{eqb-true, eq-eqb}
use Rattle.lists.specs.AllToLaws.{all_to_holds, all_to-at}
use Rattle.algebra.specs.Field.{Ops}
use Rattle.algebra.specs.Poly.{eval}
use Rattle.agree.specs.Agreement.{matches, agreeing}

module _ (O : Ops) (ps : List (List ℕ)) (l : ℕ) (word : ℕ → ℕ → ℕ) (x : ℕ) where
  pub matches-at : matches O ps l word x ≡ true → (i : ℕ) → i < l → eval O (get_or ps i []) x ≡ word x i
  unfolding matches
  matches-at e i h = eqb-true _ _ (all_to-at (λ i. eqb (eval O (get_or ps i []) x) (word x i)) l e i h)

  pub matches_holds : ((i : ℕ) → i < l → eval O (get_or ps i []) x ≡ word x i) → matches O ps l word x ≡ true
  unfolding matches
  matches_holds h = all_to_holds (λ i. eqb (eval O (get_or ps i []) x) (word x i)) l (λ i k. eq-eqb _ _ (h i k))

  module _ (usable : ℕ → Bool) where
    pub agreeing-usable : agreeing O usable word l ps x ≡ true → usable x ≡ true
    agreeing-usable e = ((and-eq-true_iff (usable x) (matches O ps l word x)).0 e).0

    pub agreeing-matches : agreeing O usable word l ps x ≡ true → matches O ps l word x ≡ true
    agreeing-matches e = ((and-eq-true_iff (usable x) (matches O ps l word x)).0 e).1

    pub agreeing_holds : usable x ≡ true → matches O ps l word x ≡ true → agreeing O usable word l ps x ≡ true
    agreeing_holds u m = (and-eq-true_iff (usable x) (matches O ps l word x)).1 (u, m)
