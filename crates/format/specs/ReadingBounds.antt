-- What holds of every reading: a good head is lawful, a fault's number is not 0, and its place is small.
-- Assumes nothing.
use Rattle.std.specs.Prelude.{ℕ, zero, suc, ◌+◌, ◌-◌, ◌≤◌, ◌<◌, max, ◌≡◌, refl, Bool, true, false, cond, List, eqb, length}
use Rattle.std.proofs.Common.{arith}
use Rattle.std.proofs.lemmas.Bool.{eqb-false}
use Rattle.header.specs.declared.head.Head.{Head}
use Rattle.header.specs.Head.{head_of, lawful_head}
use Rattle.format.specs.Reading.{Reading, Good, Bad, block_words, letter_block_number, first_fault, ending, ends_in_zeros, judged_from, read_as, read_of, place_of}
use Rattle.format.specs.GoodSlot.{good_slot}
use Rattle.format.specs.Letter.{blocks_for}
use Rattle.format.specs.LetterBlockLaws.{block_read}
use Rattle.format.specs.SlotWords.{length-block_words}

pub good_lawful_as : (mark most : ℕ) (slot : List ℕ) (h : Head) → read_as mark most slot ≡ Good h → lawful_head h ≡ true
good_lawful_as mark most slot h e =
    let g = good_slot mark most slot h e in
    (block_read mark h 0 most (block_words slot 0) (length-block_words slot g.size 0 (omega arith)) (g.faultless 0 (omega arith))).lawful

pub good_lawful : (slot : List ℕ) (h : Head) → read_of slot ≡ Good h → lawful_head h ≡ true
good_lawful slot h e = good_lawful_as 81 0 slot h e

-- a good slot's block 0 says its head
pub good_said : (mark most : ℕ) (slot : List ℕ) (h : Head) → read_as mark most slot ≡ Good h → head_of (block_words slot 0) ≡ h
good_said mark most slot h e = (good_slot mark most slot h e).first

pub record FaultFacts (number place : ℕ) : Type 0 where
  pub numbered : number ≡ 0 → ⊥
  pub near : place < 512

-- a reading that is bad has these facts
abbrev pub FaultsIn : Reading → Type 0
FaultsIn (Good h) = Unit {0}
FaultsIn (Bad number place) = FaultFacts number place

taken : (test : Bool) (one two : Reading) → FaultsIn one → (test ≡ false → FaultsIn two) → FaultsIn (cond test one two)
taken true one two a b = a
taken false one two a b = b refl

first_facts : (number : ℕ → ℕ) (otherwise : Reading) (k p : ℕ) → p + k ≤ 512 → FaultsIn otherwise → FaultsIn (first_fault number p k otherwise)
unfolding first_fault
first_facts number otherwise zero p room h = h
first_facts number otherwise (suc k) p room h =
    taken (eqb (number p) 0) (first_fault number (suc p) k otherwise) (Bad (number p) p) (first_facts number otherwise k (suc p) (omega arith) h)
    (λ e. record { numbered = eqb-false (number p) 0 e; near = omega arith })

pub fault_facts_as : (mark most : ℕ) (slot : List ℕ) → FaultsIn (read_as mark most slot)
unfolding read_as judged_from ending head_of blocks_for
fault_facts_as mark most slot =
    let h = head_of (block_words slot 0) in
    let ends = taken (ends_in_zeros slot h.length) (Good h) (Bad 13 0) tt (λ _. record { numbered = λ e. omega arith; near = omega arith }) in
    let number : ℕ → ℕ = λ place. letter_block_number mark most h place (block_words slot place) in
    let judged = first_facts number (ending slot h) (max 1 (blocks_for h.length) - 0) 0 (omega arith) ends in
    taken (eqb (length slot) 2048) (judged_from mark most slot h 0) (Bad 4 0) judged (λ _. record { numbered = λ e. omega arith; near = omega arith })

place_near : (reading : Reading) → FaultsIn reading → place_of reading < 512
place_near (Good h) facts = omega arith
place_near (Bad number place) facts = facts.near

pub small_place_as : (mark most : ℕ) (slot : List ℕ) → place_of (read_as mark most slot) < 512
small_place_as mark most slot = place_near (read_as mark most slot) (fault_facts_as mark most slot)

-- of a letter
pub fault_facts : (slot : List ℕ) → FaultsIn (read_of slot)
fault_facts slot = fault_facts_as 81 0 slot

pub small_place : (slot : List ℕ) → place_of (read_of slot) < 512
small_place slot = small_place_as 81 0 slot
