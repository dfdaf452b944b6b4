-- Two scans that have the same usable keepers among 1..n, and the same words of these, have the same agreement.
-- Assumes nothing.
use Rattle.std.specs.Prelude.{ℕ, ◌≤◌, ◌<◌, ◌≡◌, Bool, true, ◌&&◌, get_or}
use Rattle.std.proofs.Common.{sym, ◌∙◌, arith}
use Rattle.std.proofs.Math.Path.{ap, ap₂}
use mathlib.Core.List.{List, []}
use Rattle.std.proofs.Math.Dec.{eqb, leb}
use Rattle.lists.specs.AllToLaws.{all_to_same}
use Rattle.lists.specs.Count.{count, count_same}
use Rattle.lists.specs.From.{from, from_in}
use Rattle.lists.specs.KeeperSet.{keeper_set}
use Rattle.lists.specs.KeeperSetLaws.{keeper_set_same}
use Rattle.lists.specs.Member.{In}
use Rattle.lists.specs.SameTest.{same_and}
use Rattle.algebra.specs.Agreement.{need}
use Rattle.algebra.specs.Field.{Ops}
use Rattle.algebra.specs.Poly.{eval}
use Rattle.agree.specs.Agreement.{matches, agreeing, needed, polynomials_of, reaching, Reaches}
use Rattle.agree.specs.ReachingLaws.{polynomials_same}

pub record SameScan (n l : ℕ) (us us' : ℕ → Bool) (word word' : ℕ → ℕ → ℕ) : Type 0 where
  pub same_usable : (x : ℕ) → 1 ≤ x → x ≤ n → us x ≡ us' x
  pub same_words : (x : ℕ) → 1 ≤ x → x ≤ n → us x ≡ true → (i : ℕ) → i < l → word x i ≡ word' x i

module _ {n l : ℕ} {us us' : ℕ → Bool} {word word' : ℕ → ℕ → ℕ} (S : SameScan n l us us' word word') where
  pub scan_many : count us (from 1 n) ≡ count us' (from 1 n)
  scan_many = count_same us us' (from 1 n) (λ x m. let h = from_in 1 n x m in S.same_usable x h.0 (omega arith))

  scan_needed : (t f : ℕ) → needed t f n us ≡ needed t f n us'
  scan_needed t f = ap (λ (m : ℕ). need m t f) scan_many

  module _ (O : Ops) (ps : List (List ℕ)) where
    scan_matches : (x : ℕ) → 1 ≤ x → x ≤ n → us x ≡ true → matches O ps l word x ≡ matches O ps l word' x
    unfolding matches
    scan_matches x least most u =
        all_to_same (λ i. eqb (eval O (get_or ps i []) x) (word x i)) (λ i. eqb (eval O (get_or ps i []) x) (word' x i)) l
        (λ i h. ap (eqb (eval O (get_or ps i []) x)) (S.same_words x least most u i h))

    scan_agreeing : (x : ℕ) → 1 ≤ x → x ≤ n → agreeing O us word l ps x ≡ agreeing O us' word' l ps x
    scan_agreeing x least most =
        same_and (us x) (matches O ps l word x) (matches O ps l word' x) (scan_matches x least most)
        ∙ ap (λ (b : Bool). b && matches O ps l word' x) (S.same_usable x least most)

    pub scan_set : keeper_set (agreeing O us word l ps) n ≡ keeper_set (agreeing O us' word' l ps) n
    scan_set = keeper_set_same (agreeing O us word l ps) (agreeing O us' word' l ps) n scan_agreeing

    scan_agree : count (agreeing O us word l ps) (from 1 n) ≡ count (agreeing O us' word' l ps) (from 1 n)
    scan_agree = count_same (agreeing O us word l ps) (agreeing O us' word' l ps) (from 1 n) (λ x m. let h = from_in 1 n x m in scan_agreeing x h.0 (omega arith))

    pub scan_reaches : (t f : ℕ) → Reaches O t f n us word l ps → Reaches O t f n us' word' l ps
    scan_reaches t f R = record { polynomials = R.polynomials; enough = omega (arith, R.enough, scan_needed t f, scan_agree) }

  -- usable keepers' polynomials reach need in both
  pub scan_reaching : (O : Ops) (t f : ℕ) (xs : List ℕ) → ((x : ℕ) → In x xs → (1 ≤ x) × (x ≤ n) × (us x ≡ true))
      → reaching O t f n us word l xs ≡ reaching O t f n us' word' l xs
  unfolding reaching
  scan_reaching O t f xs of =
      let same = polynomials_same O l word word' xs (λ x m i h. let u = of x m in S.same_words x u.0 u.1 u.2 i h) in
      ap₂ leb (scan_needed t f) (ap (λ (ps : List (List ℕ)). count (agreeing O us word l ps) (from 1 n)) same ∙ scan_agree O (polynomials_of O word' l xs))

-- the same the other way
pub scan_back : {n l : ℕ} {us us' : ℕ → Bool} {word word' : ℕ → ℕ → ℕ} → SameScan n l us us' word word' → SameScan n l us' us word' word
scan_back S = record {
  same_usable = λ x least most. sym (S.same_usable x least most);
  same_words = λ x least most u i h. sym (S.same_words x least most (S.same_usable x least most ∙ u) i h);
}
