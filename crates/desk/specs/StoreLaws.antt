-- One store: the slot keeps its length, and holds the letter of the greater stamp.
-- Assumes nothing.
use Rattle.std.specs.Prelude.{ℕ, ◌≡◌, Bool, ◌&&◌, List, ltb}
use Rattle.std.proofs.Common.{zero-le, ◌∙◌, arith}
use Rattle.std.proofs.Math.Path.{refl, sym}
use Rattle.std.proofs.Math.Bool.{true, false, cond}
use Rattle.std.proofs.Math.Dec.{eqb}
use Rattle.std.proofs.Math.ListN.{length}
use borrow.Author.Tests.{eq-eqb, ne_eqb, eqb-true, le-ltb}
use Rattle.lists.specs.SameBytes.{same_bytes, same_bytes_equal}
use Rattle.header.specs.declared.told.Told.{Told}
use Rattle.header.specs.FirstOf.{first_wrong}
use Rattle.header.specs.Head.{head_of}
use Rattle.header.specs.Passing.{passed}
use Rattle.format.specs.Reading.{Reading, Good, Bad, block_words, judged_from, read_as, read_of, no_head}
use Rattle.format.specs.ReadingBounds.{FaultFacts, FaultsIn, fault_facts}
use Rattle.desk.specs.Desk.{of_desk, stamp_in, stamp_held, desk_right, against, offered, store_number, store_leaves}

module _ (told : Told) (keeper : ℕ) (held letter : List ℕ) where
  -- a letter that is taken is as long as the slot that takes it
  pub taken_size : store_number told keeper held letter ≡ 0 → length held ≡ length letter
  unfolding store_number
  taken_size done =
      let sizes = slots (desk_right told keeper) (eqb (length held) 2048 && eqb (length letter) 2048) (offered told keeper held letter (read_of letter)) done in
      let one : length held ≡ 2048 = search passed in
      let two : length letter ≡ 2048 = search passed in
      one ∙ sym two
    where
      slots : (right sized : Bool) (number : ℕ) → cond right (cond sized number 4) 1 ≡ 0 → sized ≡ true
      slots true true number e = refl
      slots true false number e = absurd (omega arith)
      slots false sized number e = absurd (omega arith)

  pub leaves_size : length (store_leaves told keeper held letter) ≡ length held
  unfolding store_leaves
  leaves_size = step (eqb (store_number told keeper held letter) 0) (λ e. taken_size (eqb-true _ 0 e))
    where
      step : (taken : Bool) → (taken ≡ true → length held ≡ length letter) → length (cond taken letter held) ≡ length held
      step true same = sym (same refl)
      step false same = refl

  -- the letter's own number comes first
  pub offered_bad : (number place : ℕ) → FaultFacts number place → offered told keeper held letter (Bad number place) ≡ number
  offered_bad number place facts =
      first_wrong number (cond (of_desk told keeper no_head) (against 0 (stamp_held told keeper held) (same_bytes held letter)) 16) facts.numbered

  abbrev before : ℕ
  before = stamp_held told keeper held

  -- equal bytes are taken too, and that changes nothing
  newer_taken : (newer older same : Bool) → (same ≡ true → held ≡ letter)
      → cond (eqb (cond newer 0 (cond older 14 (cond same 0 15))) 0) letter held ≡ cond newer letter held
  newer_taken true older same equal = refl
  newer_taken false true same equal = refl
  newer_taken false false true equal = sym (equal refl)
  newer_taken false false false equal = refl

  newer_read : (reading : Reading) → FaultsIn reading
      → cond (eqb (offered told keeper held letter reading) 0) letter held ≡ cond (ltb before (stamp_in told keeper reading)) letter held
  newer_read (Good h) facts = ours (of_desk told keeper h)
    where
      ours : (our : Bool)
          → cond (eqb (cond our (against h.stamp before (same_bytes held letter)) 16) 0) letter held
          ≡ cond (ltb before (cond our h.stamp 0)) letter held
      ours true = newer_taken (ltb before h.stamp) (ltb h.stamp before) (same_bytes held letter) (same_bytes_equal held letter)
      ours false = rw (le-ltb before 0 zero-le)
  newer_read (Bad number place) facts = rw (offered_bad number place facts, ne_eqb number 0 facts.numbered, le-ltb before 0 zero-le)

  module _ (right : desk_right told keeper ≡ true) (size : length held ≡ 2048) where
    -- a letter of the wrong length does not read, with the desk's own number
    number_offered : store_number told keeper held letter ≡ offered told keeper held letter (read_of letter)
    unfolding store_number read_as
    number_offered = rw (right, eq-eqb (length held) 2048 size) (step (eqb (length letter) 2048) (judged_from 81 0 letter (head_of (block_words letter 0)) 0))
      where
        step : (sized : Bool) (judged : Reading) → cond sized (offered told keeper held letter (cond sized judged (Bad 4 0))) 4 ≡ offered told keeper held letter (cond sized judged (Bad 4 0))
        step true judged = refl
        step false judged = refl

    pub leaves_newer : store_leaves told keeper held letter ≡ cond (ltb (stamp_held told keeper held) (stamp_held told keeper letter)) letter held
    unfolding store_leaves stamp_held
    leaves_newer = rw number_offered (newer_read (read_of letter) (fault_facts letter))
