-- Going down the groups, rank after rank: which have been passed, and what is answered of them.
-- Assumes nothing.
use Prim.Native.Nat.{ℕ, suc, ◌+◌, ◌≤◌, ◌<◌}
use mathlib.Core.Path.{◌≡◌, refl, sym}
use mathlib.Core.Bool.{Bool, true, false, not, cond, false≢true}
use mathlib.Core.List.{List}
use mathlib.Core.Logic.{◌⊎◌, inl, inr, ⊎_elim}
use native.Mathlib.Nat.{eq-or-lt_of_le, lt_of_not-le}
use native.Mathlib.Omega.{arith}
use lib.Dec.{eqb}
use borrow.Author.Tests.{eqb-true, eqb-false}
use Rattle.algebra.specs.Field.{Ops, IsField}
use Rattle.header.specs.declared.told.Told.{Told}
use Rattle.header.specs.Passing.{and_left, and_right}
use Rattle.header.specs.TermsLaws.{TermsFacts}
use Rattle.pick.specs.JoinGivesLaws.{gives_large, gives_few, gives_same}
use Rattle.pick.specs.Ranks.{rank_of, stamp_in, length_in, RanksOf, NextOf, is_first, answer_of}
use Rattle.pick.specs.Pick.{Large, JoinGives, NotBefore, pick_refusal, PickDone, none, chosen, stuck}
use Rattle.pick.specs.PickedLaws.{large_terms}
use Rattle.pick.specs.RefusalLaws.{pick_facts}
use Rattle.pick.proofs.LargeGroups.{large_most, next_terms}
use Rattle.pick.proofs.Said.{parts_of}

-- what is answered where no group above a rank joins: nothing yet, or the greatest group's number and rank
pub data Answer (O : Ops) (told : Told) (tray : List ℕ) (rank : ℕ) : ℕ → ℕ → Type 0 where
  nothing : ((s k : ℕ) → Large told tray s k → rank < rank_of s k → ⊥) → Answer O told tray rank 6 0
  greatest : (number top : ℕ) → TermsFacts told (stamp_in top) (length_in top) → (number ≡ 6 → ⊥) → JoinGives O told tray (stamp_in top) (length_in top) number
      → ((s k : ℕ) → Large told tray s k → rank_of s k ≤ top) → Answer O told tray rank number top

-- the groups above a rank are passed
pub record Passed (O : Ops) (told : Told) (tray : List ℕ) (rank number top : ℕ) : Type 0 where
  pub terms : 1 ≤ rank → TermsFacts told (stamp_in rank) (length_in rank)
  pub none_joins : (s k : ℕ) → Large told tray s k → rank < rank_of s k → JoinGives O told tray s k 0 → ⊥
  pub answered : Answer O told tray rank number top

-- a rank that is no greater does not come before
not_before : (s k rank : ℕ) → k ≤ 952 → rank_of s k ≤ rank → NotBefore s k (stamp_in rank) (length_in rank)
not_before s k rank short most =
    let least : s ≤ stamp_in rank = omega arith in
    ⊎_elim (λ (e : s ≡ stamp_in rank). inr (e, omega arith)) (λ earlier. inl earlier) (eq-or-lt_of_le least)

at_most : (a b : ℕ) → (a < b → ⊥) → b ≤ a
at_most a b never = omega (arith, lt_of_not-le {n = suc a} {m = b} never)

-- no group lies between a bound and the next rank below it
not_between : {told : Told} {tray ranks : List ℕ} {bound next : ℕ} → RanksOf told tray ranks → NextOf ranks told.order.n (told.order.t + told.order.f + 1) bound next
    → (s k : ℕ) → Large told tray s k → next < rank_of s k → bound ≤ rank_of s k
not_between {bound = bound} are is s k large above = at_most (rank_of s k) bound (λ below. omega (arith, large_most are is s k large below))

module _ {O : Ops} {told : Told} {tray ranks : List ℕ} (are : RanksOf told tray ranks) (right : pick_refusal told tray ≡ 0) where
  pub passed_none : {next : ℕ} → NextOf ranks told.order.n (told.order.t + told.order.f + 1) 4398046511104 next → Passed O told tray next 6 0
  passed_none {next} is =
      record { terms = next_terms are is; none_joins = λ s k large above j. never s k large above; answered = nothing never }
    where
      never : (s k : ℕ) → Large told tray s k → next < rank_of s k → ⊥
      never s k large above = omega (arith, not_between are is s k large above, large_terms told tray s k large)

  module _ {rank number top : ℕ} (before : Passed O told tray rank number top) where
    -- past the last rank
    pub passed_all : rank ≡ 0 → PickDone O told tray (answer_of number top)
    passed_all z = last before.answered
      where
        above : (s k : ℕ) → Large told tray s k → rank < rank_of s k
        above s k large = omega (arith, large_terms told tray s k large)

        last : {n m : ℕ} → Answer O told tray rank n m → PickDone O told tray (answer_of n m)
        last (nothing f) = none right (λ s k large. f s k large (above s k large))
        last (greatest n m terms other J most) =
            stuck n (stamp_in m) (length_in m) right (λ s k joining. before.none_joins s k joining.large (above s k joining.large) joining.joins)
            (record { has = gives_large terms (pick_facts told tray right).slots J other; rest = λ s k large. not_before s k m (large_terms told tray s k large).length_most (most s k large) }) J

    module _ (some : 1 ≤ rank) where
      -- the group of the rank joins
      pub passed_joins : JoinGives O told tray (stamp_in rank) (length_in rank) 0 → PickDone O told tray (answer_of 0 rank)
      passed_joins J =
          chosen (stamp_in rank) (length_in rank) right (record {
            has = record { large = gives_large (before.terms some) (pick_facts told tray right).slots J (λ z. omega arith); joins = J };
            rest = λ s k joining.
                not_before s k rank (large_terms told tray s k joining.large).length_most
                (at_most rank (rank_of s k) (λ above. before.none_joins s k joining.large above joining.joins));
          })

      -- it does not
      module _ (F : IsField O) (apart : told.order.n < O.q) {tried next : ℕ} (J : JoinGives O told tray (stamp_in rank) (length_in rank) tried) (fails : tried ≡ 0 → ⊥)
          (is : NextOf ranks told.order.n (told.order.t + told.order.f + 1) rank next) where
        -- a large group above the next rank is that of this one, or was passed before
        at_or_above : (s k : ℕ) → Large told tray s k → next < rank_of s k → ((stamp_in rank ≡ s) × (length_in rank ≡ k)) ⊎ (rank < rank_of s k)
        at_or_above s k large above =
            ⊎_elim (λ (e : rank ≡ rank_of s k). let parts = parts_of s k (large_terms told tray s k large).length_most in inl (rw e (parts.stamp_in_lem, parts.length_in_lem)))
            (λ past. inr past) (eq-or-lt_of_le (not_between are is s k large above))

        passed : {n m : ℕ} → Answer O told tray next n m → Passed O told tray next n m
        passed now = record {
          terms = next_terms are is;
          none_joins = λ s k large above zero.
              ⊎_elim
              (λ (e : (stamp_in rank ≡ s) × (length_in rank ≡ k)). fails (gives_same F apart J (rw (e.0, e.1) zero)))
              (λ past. before.none_joins s k large past zero) (at_or_above s k large above);
          answered = now;
        }

        passed_first : is_first number tried ≡ true → Passed O told tray next tried rank
        passed_first e =
            passed (greatest tried rank (before.terms some) (not_6 (eqb tried 6) refl (and_right (eqb number 6) (not (eqb tried 6)) e)) J
            (λ s k large. at_most rank (rank_of s k) (λ past. no_larger before.answered (eqb-true number 6 (and_left (eqb number 6) (not (eqb tried 6)) e)) s k large past)))
          where
            not_6 : (six : Bool) → eqb tried 6 ≡ six → not six ≡ true → tried ≡ 6 → ⊥
            not_6 false e other = eqb-false tried 6 e
            not_6 true e other = absurd (false≢true other)

            no_larger : {n m : ℕ} → Answer O told tray rank n m → n ≡ 6 → (s k : ℕ) → Large told tray s k → rank < rank_of s k → ⊥
            no_larger (nothing f) e = f
            no_larger (greatest n m terms distinct J most) e = absurd (distinct e)

        passed_kept : is_first number tried ≡ false → Passed O told tray next number top
        passed_kept e = passed (kept before.answered e)
          where
            six : (b : Bool) → eqb tried 6 ≡ b → not b ≡ false → tried ≡ 6
            six true e other = eqb-true tried 6 e
            six false e other = absurd (false≢true (sym other))

            kept : {n m : ℕ} → Answer O told tray rank n m → is_first n tried ≡ false → Answer O told tray next n m
            kept (nothing f) e =
                let z = six (eqb tried 6) refl e in
                nothing (λ s k large above.
                ⊎_elim
                (λ (same : (stamp_in rank ≡ s) × (length_in rank ≡ k)). gives_few (before.terms some) (pick_facts told tray right).slots (rw z at J) (rw (same.0, same.1) large))
                (λ past. f s k large past) (at_or_above s k large above))
            kept (greatest n m terms distinct J most) e = greatest n m terms distinct J most

        pub passed_more : (first : Bool) → is_first number tried ≡ first → Passed O told tray next (cond first tried number) (cond first rank top)
        passed_more true e = passed_first e
        passed_more false e = passed_kept e
