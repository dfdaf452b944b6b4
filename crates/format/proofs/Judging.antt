-- Judging a slot one block after another.
-- Assumes nothing.
use Prim.Native.Nat.{ℕ, suc, ◌+◌, ◌-◌, ◌<◌, ◌≤◌, max}
use mathlib.Core.Path.{◌≡◌}
use mathlib.Core.List.{List}
use native.Mathlib.Numerals.{add-one}
use native.Mathlib.Omega.{arith}
use borrow.Author.Tests.{eq-eqb, ne_eqb}
use Rattle.header.specs.declared.head.Head.{Head}
use Rattle.format.specs.Reading.{Bad, block_words, letter_block_number, first_fault, ending, judged_from}
use Rattle.format.specs.Letter.{blocks_for}

module _ (mark most : ℕ) (slot : List ℕ) (h : Head) (p : ℕ) where
  pub judged_all : max 1 (blocks_for h.length) ≤ p → judged_from mark most slot h p ≡ ending slot h
  unfolding judged_from first_fault
  judged_all past =
      let none : max 1 (blocks_for h.length) - p ≡ 0 = omega arith in
      rw none

  module _ (number : ℕ) (found : number ≡ letter_block_number mark most h p (block_words slot p)) (within : p < max 1 (blocks_for h.length)) where
    one_more : max 1 (blocks_for h.length) - p ≡ suc (max 1 (blocks_for h.length) - (p + 1))
    one_more = omega arith

    pub good_block : number ≡ 0 → judged_from mark most slot h p ≡ judged_from mark most slot h (p + 1)
    unfolding judged_from first_fault
    good_block good = rw (one_more, ← found, eq-eqb number 0 good, add-one)

    pub bad_block : (number ≡ 0 → ⊥) → judged_from mark most slot h p ≡ Bad number p
    unfolding judged_from first_fault
    bad_block bad = rw (one_more, ← found, ne_eqb number 0 bad)
