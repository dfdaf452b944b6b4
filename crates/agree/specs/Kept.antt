-- The keepers that have kept step through the first words, and what is found of them in the end.
-- Assumes nothing.
use Rattle.std.specs.Prelude.{ℕ, ◌^◌, ◌≤◌, ◌<◌, ◌≡◌, Bool, true, List}
use Rattle.lists.specs.Count.{count}
use Rattle.lists.specs.From.{from}
use Rattle.lists.specs.KeeperSet.{keeper_set, member}
use Rattle.lists.specs.Member.{In}
use Rattle.algebra.specs.Field.{Ops}
use Rattle.algebra.specs.Poly.{Degree}
use Rattle.agree.specs.Agreement.{Reaches, agreeing, needed}
use Rattle.search.specs.Search.{Through}

-- the words of the keepers of a set lie on one polynomial
pub record OnOne (O : Ops) (t n : ℕ) (set : ℕ → Bool) (y : ℕ → ℕ) : Type 0 where
  pub polynomial : List ℕ
  pub degree : Degree O t polynomial
  pub through : Through O n set y polynomial

-- a place from `start` on, up to which two rows of words are alike
pub record Alike (f g : ℕ → ℕ) (start end place : ℕ) : Type 0 where
  pub starts : start ≤ place
  pub ends : place ≤ end
  pub same : (j : ℕ) → start ≤ j → j < place → f j ≡ g j

-- a word from `start` on, up to which the keepers of a set keep step
pub record InStep (O : Ops) (t n : ℕ) (set : ℕ → Bool) (words : ℕ → ℕ → ℕ) (start l end : ℕ) : Type 0 where
  pub starts : start ≤ end
  pub ends : end ≤ l
  pub on_one : (j : ℕ) → start ≤ j → j < end → OnOne O t n set (λ x. words x j)

module _ (O : Ops) (t f n : ℕ) (usable : ℕ → Bool) (words : ℕ → ℕ → ℕ) (l : ℕ) where
  -- the set after i words: enough keepers, in step so far, and whoever matches any polynomials that reach need is still among them
  pub record Kept (set i : ℕ) : Type 0 where
    pub below : set < 2 ^ n
    pub within : (x : ℕ) → In x (from 1 n) → member set x ≡ true → usable x ≡ true
    pub enough : needed t f n usable ≤ count (member set) (from 1 n)
    pub in_step : (j : ℕ) → j < i → OnOne O t n (member set) (λ x. words x j)
    pub keeps : (ps : List (List ℕ)) → Reaches O t f n usable words l ps → (x : ℕ) → In x (from 1 n) → agreeing O usable words l ps x ≡ true → member set x ≡ true

  -- polynomials that reach need, and the set of the keepers that match them
  pub record Agreed (set : ℕ) : Type 0 where
    pub polynomials : List (List ℕ)
    pub reaches : Reaches O t f n usable words l polynomials
    pub agree : set ≡ keeper_set (agreeing O usable words l polynomials) n

  -- the empty set where no polynomials reach need, and else the keepers that match those that do
  pub record Found (set : ℕ) : Type 0 where
    pub none : set ≡ 0 → (ps : List (List ℕ)) → Reaches O t f n usable words l ps → ⊥
    pub some : (set ≡ 0 → ⊥) → Agreed set
