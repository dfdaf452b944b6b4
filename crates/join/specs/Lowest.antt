-- The first set whose polynomials reach need is the t + 1 lowest keepers of the set that matches: any set whose polynomials do lies within it.
-- Assumes nothing.
use Rattle.std.specs.Prelude.{ℕ, ◌+◌, ◌≤◌, ◌<◌, ◌≡◌, refl, Bool, true, false, ◌&&◌, List, take}
use Rattle.std.proofs.Common.{sym, ap, ◌∙◌, subst, arith}
use Rattle.lists.specs.Chosen.{chosen, chosen_in, chosen_same, chosen-chosen, different_chosen, count-chosen}
use Rattle.lists.specs.Count.{count, both, count_same}
use Rattle.lists.specs.From.{from, from_in, different_from}
use Rattle.lists.specs.KeeperSet.{member}
use Rattle.lists.specs.KeeperSetLaws.{member-keeper_set}
use Rattle.lists.specs.Member.{in_get_d}
use Rattle.lists.specs.SameTest.{same_test}
use Rattle.algebra.specs.Field.{Ops, IsField}
use Rattle.agree.specs.Agreement.{matches, agreeing, reaching, Reaches}
use Rattle.agree.specs.Kept.{Agreed}
use Rattle.agree.specs.ReachingLaws.{Keeping, agreed_reaching, reaching_agreed}
use Rattle.trials.specs.Each.{Each, each_more}
use Rattle.trials.proofs.Lowest.{first_within}
use Rattle.trials.specs.SetsLaws.{SetOf}
use Rattle.trials.proofs.SetsLaws.{sets_of}
use Rattle.trials.specs.Trials.{trials, FirstGood, first_trials, first_same, trials_same}
use Rattle.trials.specs.Within.{within, within-each, each_within, within_same}
use Rattle.join.specs.HuntLaws.{tried_usable}
use Rattle.join.specs.Join.{hunt, hunted}

module _ {O : Ops} (F : IsField O) {t f n l : ℕ} (apart : n < O.q) {us : ℕ → Bool} {word : ℕ → ℕ → ℕ}
    (words : (x : ℕ) → 1 ≤ x → x ≤ n → us x ≡ true → (i : ℕ) → i < l → word x i < O.q) {ps : List (List ℕ)} (R : Reaches O t f n us word l ps) where
  abbrev agrees : ℕ → Bool
  agrees = agreeing O us word l ps

  keeping : (z : List ℕ) → SetOf (t + 1) (chosen us (from 1 n)) z → Keeping O t l word z
  keeping z s = record {
    many = omega (arith, s.size);
    points = record {
      below = λ i h. let u = tried_usable n us s _ (in_get_d z i h) in omega arith;
      different = s.different (different_chosen us (from 1 n) (different_from 1 n));
    };
    words = λ x m. let u = tried_usable n us s x m in words x u.0 u.1 u.2;
  }

  -- a set's polynomials reach need exactly where it lies within the set that matches
  reaching-within : (z : List ℕ) → SetOf (t + 1) (chosen us (from 1 n)) z → within agrees z ≡ reaching O t f n us word l z
  reaching-within z s =
      same_test (within agrees z) (reaching O t f n us word l z)
      (λ e. agreed_reaching F (keeping z s) R (within-each agrees z e))
      (λ e. each_within agrees z (reaching_agreed F (keeping z s) R apart (λ x m. (tried_usable n us s x m).2) e))

  each_tried : Each (λ z. within agrees z ≡ reaching O t f n us word l z) (hunt t n us)
  each_tried = each_more reaching-within (hunt t n us) (sets_of (chosen us (from 1 n)) (t + 1))

  -- those that match are usable
  both_agree : (x : ℕ) → both us agrees x ≡ agrees x
  both_agree x = twice (us x) (matches O ps l word x)
    where
      twice : (a b : Bool) → (a && (a && b)) ≡ (a && b)
      twice true b = refl
      twice false b = refl

  enough : t + 1 ≤ count agrees (chosen us (from 1 n))
  enough = omega (arith, R.enough, count-chosen us agrees (from 1 n), count_same (both us agrees) agrees (from 1 n) (λ x m. both_agree x))

  lowest_agree : chosen agrees (chosen us (from 1 n)) ≡ chosen agrees (from 1 n)
  lowest_agree = chosen-chosen us agrees (from 1 n) ∙ chosen_same (both us agrees) agrees (from 1 n) (λ x m. both_agree x)

  pub hunt_lowest : FirstGood (reaching O t f n us word l) (hunt t n us) (take (t + 1) (chosen agrees (from 1 n))) (hunted O t f n us word l)
  hunt_lowest =
      let first = first_same each_tried (first_within agrees (chosen us (from 1 n)) (t + 1) enough) in
      let lowest = rw lowest_agree at first in
      subst (FirstGood (reaching O t f n us word l) (hunt t n us) (take (t + 1) (chosen agrees (from 1 n)))) (sym (first_trials first)) lowest

  -- a test that says the same of the keepers 1..n
  module _ (a : ℕ → Bool) (same : (x : ℕ) → 1 ≤ x → x ≤ n → a x ≡ agrees x) where
    pub enough_within : t + 1 ≤ count a (chosen us (from 1 n))
    enough_within =
        omega (arith, enough, count_same a agrees (chosen us (from 1 n)) (λ x m. let b = from_in 1 n x (chosen_in us (from 1 n) x m) in same x b.0 (omega arith)))

    pub hunted-within : trials (within a) (hunt t n us) ≡ hunted O t f n us word l
    hunted-within =
        trials_same (within a) (reaching O t f n us word l) (hunt t n us)
        (each_more (λ z s. within_same a agrees z (λ x m. let u = tried_usable n us s x m in same x u.0 u.1) ∙ reaching-within z s)
        (hunt t n us) (sets_of (chosen us (from 1 n)) (t + 1)))

-- the set that was found says the same
module _ {O : Ops} (F : IsField O) {t f n l set : ℕ} (apart : n < O.q) {us : ℕ → Bool} {word : ℕ → ℕ → ℕ}
    (words : (x : ℕ) → 1 ≤ x → x ≤ n → us x ≡ true → (i : ℕ) → i < l → word x i < O.q) (a : Agreed O t f n us word l set) where
  of_set : (x : ℕ) → 1 ≤ x → x ≤ n → member set x ≡ agreeing O us word l a.polynomials x
  of_set x least most = ap (λ (z : ℕ). member z x) a.agree ∙ member-keeper_set (agreeing O us word l a.polynomials) n x least most

  pub enough_agreed : t + 1 ≤ count (member set) (chosen us (from 1 n))
  enough_agreed = enough_within F apart words a.reaches (member set) of_set

  pub hunted_agreed : trials (within (member set)) (hunt t n us) ≡ hunted O t f n us word l
  hunted_agreed = hunted-within F apart words a.reaches (member set) of_set
