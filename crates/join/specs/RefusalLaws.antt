-- The numbers of the join's refusals, and what it says that there is none.
-- Assumes nothing.
use Rattle.std.specs.Prelude.{ℕ, zero, suc, ◌*◌, ◌≤◌, ◌≡◌, Bool, true, false, cond, ◌&&◌, List, length}
use Rattle.std.proofs.Common.{◌∙◌, arith}
use Rattle.std.proofs.Math.Dec.{eqb, eqb-suc-zero}
use Rattle.algebra.specs.Field.{Ops}
use Rattle.header.specs.declared.told.Told.{Told}
use Rattle.header.specs.FirstOf.{first_of, both_right}
use Rattle.header.specs.Told.{lawful_told}
use Rattle.header.specs.Passing.{passed, passes, passing}
use Rattle.header.specs.Terms.{lawful_stamp, lawful_length, terms_number}
use Rattle.header.specs.TermsLaws.{TermsFacts, terms_facts, facts_terms}
use Rattle.join.specs.Join.{join_refusal, answer, JoinDone, refused}

-- the shapes of the refusals
of_one : (a : Bool) → cond a 0 4 ≤ 4
of_one true = omega arith
of_one false = omega arith

of_three : (a b c : Bool) → cond a (cond b (cond c 0 3) 2) 1 ≤ 4
of_three true true true = omega arith
of_three true true false = omega arith
of_three true false c = omega arith
of_three false b c = omega arith

first_most : (one two : ℕ) → one ≤ 4 → two ≤ 4 → first_of one two ≤ 4
first_most zero two a b = b
first_most (suc one) two a b = rw eqb-suc-zero a

module _ (told : Told) (stamp l : ℕ) (tray room : List ℕ) where
  -- none is greater than 4
  pub refusal_most : join_refusal told stamp l tray room ≤ 4
  unfolding join_refusal terms_number
  refusal_most =
      first_most (terms_number told stamp l) _ (of_three (lawful_told told) (lawful_length l) (lawful_stamp stamp))
      (of_one (eqb (length tray) (2048 * told.order.n) && eqb (length room) l))

  pub record JoinFacts : Type 0 where
    pub of_terms : TermsFacts told stamp l
    pub tray_lent : length tray ≡ 2048 * told.order.n
    pub room_lent : length room ≡ l

  pub accepted_facts : join_refusal told stamp l tray room ≡ 0 → JoinFacts
  unfolding join_refusal
  accepted_facts e =
      let right = both_right (terms_number told stamp l) _ e in
      let lent-right = (passing (eqb (length tray) (2048 * told.order.n) && eqb (length room) l) 0 3 right.1).0 in
      record { of_terms = terms_facts told stamp l right.0; tray_lent = search passed; room_lent = search passed }

  pub facts_accepted : JoinFacts → join_refusal told stamp l tray room ≡ 0
  unfolding join_refusal
  facts_accepted h =
      simp (passes, facts_terms told stamp l h.of_terms, h.tray_lent, h.room_lent)

  -- a refusal is the promise already: its number, and the room as it was
  pub refused_done : (O : Ops) (number : ℕ) → number ≡ join_refusal told stamp l tray room → (number ≡ 0 → ⊥)
      → JoinDone O told stamp l tray room (answer number 0 0 0 0) room
  refused_done O number e other = rw e (refused (λ z. other (e ∙ z)))
