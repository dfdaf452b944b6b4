-- The keepers that keep step, word by word: what the loop begins with, and what each of its ways comes to.
-- Assumes nothing.
use Rattle.std.specs.Prelude.{ℕ, ◌+◌, ◌^◌, ◌≤◌, ◌<◌, ◌≡◌, refl, Bool, [], get_or}
use Rattle.std.proofs.Common.{subst, not-suc-le-zero, arith}
use Rattle.std.proofs.Math.Logic.{by_cases}
use Rattle.std.proofs.Math.Decide.{dec_lt}
use Rattle.std.specs.Int.Count.{ones}
use Rattle.lists.specs.Count.{count}
use Rattle.lists.specs.From.{from}
use Rattle.lists.specs.KeeperSet.{member}
use Rattle.lists.specs.KeeperSetLaws.{ones-member}
use Rattle.algebra.specs.Field.{Ops, IsField}
use Rattle.algebra.specs.Points.{Points}
use Rattle.search.specs.Search.{Narrows}
use Rattle.agree.specs.Agreement.{needed}
use Rattle.agree.specs.AgreementLaws.{agreeing-usable}
use Rattle.agree.specs.Kept.{InStep, Kept, Found}
use Rattle.agree.specs.AgreedLaws.{agreed}
use Rattle.agree.specs.NarrowedLaws.{reached_here, kept_found}

-- before the first word: all that are usable
pub kept_start : (O : Ops) (t f n : ℕ) (words : ℕ → ℕ → ℕ) (l set : ℕ) → set < 2 ^ n → t + f + 1 ≤ count (member set) (from 1 n)
    → Kept O t f n (member set) words l set 0
kept_start O t f n words l set b h = record {
  below = b;
  within = λ x m e. e;
  enough = omega arith;
  in_step = λ j k. absurd (not-suc-le-zero k);
  keeps = λ ps r x m e. agreeing-usable O ps l words x (member set) e;
}

module _ {O : Ops} {t f n : ℕ} {usable : ℕ → Bool} {words : ℕ → ℕ → ℕ} {l set i : ℕ} (k : Kept O t f n usable words l set i) where
  -- words at which the whole set is in step
  pub kept_in_step : {end : ℕ} → InStep O t n (member set) words i l end → Kept O t f n usable words l set end
  kept_in_step {end} s = record {
    below = k.below;
    within = k.within;
    enough = k.enough;
    in_step = λ j h. by_cases (dec_lt j i) (λ g. k.in_step j g) (λ g. s.on_one j (omega arith) h);
    keeps = k.keeps;
  }

  -- a search at word i: it found the next set, or there are no polynomials that reach need
  module _ {m r : ℕ} (h : i < l) (e : m ≡ needed t f n usable) (g : Narrows O t n m (member set) (λ x. words x i) r) where
    pub kept_narrowed : IsField O → Points O.q (from 1 n) → (r ≡ 0 → ⊥) → Kept O t f n usable words l r (i + 1)
    kept_narrowed F P other =
        let found = g.sound other in
        kept_found O t f n usable words l set i k h found.polynomial found.degree (omega (arith, found.enough)) F P r found.matching

    pub found_none : r ≡ 0 → Found O t f n usable words l 0
    found_none z = record {
      none = λ _ ps reach. g.complete (get_or ps i []) (reach.polynomials.degree i h) (rw e (reached_here O t f n usable words l ps reach set i k h)) tt z;
      some = λ other. absurd (other refl);
    }

  -- after the last word
  pub found_kept : i ≡ l → Found O t f n usable words l set
  unfolding ones
  found_kept e = record {
    none = λ empty. let z : ones set ≡ 0 = rw empty in absurd (omega (arith, k.enough, ones-member n set k.below));
    some = λ _. agreed O t f n usable words l set (subst (Kept O t f n usable words l set) e k);
  }
