-- What it says that a slot reads as good: its length, what block 0 says, that no block is faulty, and how it ends.
-- Assumes nothing.
use Prim.Native.Nat.{ℕ, zero, suc, ◌+◌, ◌-◌, ◌<◌, ◌≤◌, max}
use Rattle.std.specs.Prelude.{◌≡◌, Bool, true, false, cond, List, eqb, length}
use Rattle.std.proofs.Math.Path.{refl, ap}
use Rattle.std.proofs.Math.Logic.{⊎_elim}
use Rattle.std.proofs.Common.{eq-or-lt_of_le, arith}
use Rattle.std.proofs.Math.Nat.{sub-zero}
use borrow.Author.Tests.{eq-eqb, eqb-true}
use Rattle.header.specs.declared.head.Head.{Head}
use Rattle.header.specs.Head.{head_of}
use Rattle.format.specs.Reading.{Reading, Good, Bad, block_words, letter_block_number, first_fault, ends_in_zeros, ending, judged_from, read_as}
use Rattle.format.specs.Letter.{blocks_for}

bad_not_good : (number place : ℕ) (h : Head) → Bad number place ≡ Good h → ⊥
bad_not_good number place h e = let z : ◌≡◌ {A = ℕ} 0 1 = cc in omega arith

passed_good : (test : Bool) (next : Reading) (number place : ℕ) (h : Head)
    → cond test next (Bad number place) ≡ Good h → (test ≡ true) × (next ≡ Good h)
passed_good true next number place h e = (refl, e)
passed_good false next number place h e = absurd (bad_not_good number place h e)

module _ (number : ℕ → ℕ) (otherwise : Reading) where
  none_faulty : (k p : ℕ) → ((i : ℕ) → p ≤ i → i < p + k → number i ≡ 0) → first_fault number p k otherwise ≡ otherwise
  unfolding first_fault
  none_faulty zero p good = refl
  none_faulty (suc k) p good =
      rw (eq-eqb (number p) 0 (good p (omega arith) (omega arith)))
      (none_faulty k (suc p) (λ i least most. good i (omega arith) (omega arith)))

  good_none_faulty : (h : Head) (k p : ℕ) → first_fault number p k otherwise ≡ Good h
      → ((i : ℕ) → p ≤ i → i < p + k → number i ≡ 0) × (otherwise ≡ Good h)
  unfolding first_fault
  good_none_faulty h zero p e = (λ i least most. absurd (omega arith), e)
  good_none_faulty h (suc k) p e =
      let first = passed_good (eqb (number p) 0) (first_fault number (suc p) k otherwise) (number p) p h e in
      let rest = good_none_faulty h k (suc p) first.1 in (
        λ i least most. ⊎_elim (λ (q : p ≡ i). rw (← q) (eqb-true (number p) 0 first.0)) (λ past. rest.0 i past (omega arith)) (eq-or-lt_of_le least),
        rest.1,
      )

module _ (mark most : ℕ) where
  pub record GoodSlot (slot : List ℕ) (h : Head) : Type 0 where
    pub size : length slot ≡ 2048
    pub first : head_of (block_words slot 0) ≡ h
    pub faultless : (p : ℕ) → p < max 1 (blocks_for h.length) → letter_block_number mark most h p (block_words slot p) ≡ 0
    pub ends : ends_in_zeros slot h.length ≡ true

  module _ (slot : List ℕ) (h : Head) where
    pub slot_good : GoodSlot slot h → read_as mark most slot ≡ Good h
    unfolding read_as judged_from ending
    slot_good good =
        rw (eq-eqb (length slot) 2048 good.size, good.first, sub-zero, good.ends)
        (none_faulty (λ place. letter_block_number mark most h place (block_words slot place)) (Good h) (max 1 (blocks_for h.length)) 0
        (λ p least most. good.faultless p (omega arith)))

    pub good_slot : read_as mark most slot ≡ Good h → GoodSlot slot h
    unfolding read_as judged_from ending
    good_slot e =
        let said = head_of (block_words slot 0) in
        let long = passed_good (eqb (length slot) 2048) (judged_from mark most slot said 0) 4 0 h e in
        let judged = good_none_faulty (λ place. letter_block_number mark most said place (block_words slot place)) (ending slot said) h (max 1 (blocks_for said.length) - 0) 0 long.1 in
        let ended = passed_good (ends_in_zeros slot said.length) (Good said) 13 0 h judged.1 in
        let met = ended.1 in
        let same : said ≡ h = cc in
        let many = ap (λ (g : Head). blocks_for g.length) same in
        record {
          size = eqb-true (length slot) 2048 long.0;
          first = same;
          faultless = λ p within. rw same at (judged.0 p (omega arith) (omega arith));
          ends = rw same at ended.0;
        }
