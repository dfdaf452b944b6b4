-- What the stamp of a slot says: it is not 0 exactly where the slot is a good letter for this desk, and then it is the letter's.
-- Assumes nothing.
use Rattle.std.specs.Prelude.{ℕ, ◌<◌, ◌≤◌, ◌≡◌, Bool, List}
use Rattle.std.proofs.Math.Path.{refl}
use Rattle.std.proofs.Math.Bool.{true, false, cond}
use Rattle.std.proofs.Common.{arith}
use borrow.Author.Tests.{eq-eqb}
use Rattle.header.specs.declared.told.Told.{Told}
use Rattle.header.specs.declared.head.Head.{Head}
use Rattle.header.specs.HeadLaws.{lawful_head_facts}
use Rattle.header.specs.Passing.{passed}
use Rattle.header.specs.ToldLaws.{same_told_equal, equal_same_told}
use Rattle.format.specs.Reading.{Reading, Good, Bad, read_of}
use Rattle.format.specs.ReadingBounds.{good_lawful}
use Rattle.desk.specs.Desk.{of_desk, stamp_in, stamp_held}

-- a good letter of this desk's order, key and keeper
pub record GoodHere (told : Told) (keeper : ℕ) (slot : List ℕ) : Type 0 where
  pub head : Head
  pub reads : read_of slot ≡ Good head
  pub of_told : head.told ≡ told
  pub of_keeper : head.keeper ≡ keeper

-- no letter has stamp 0
pub stamp_read : (slot : List ℕ) (h : Head) → read_of slot ≡ Good h → 1 ≤ h.stamp
stamp_read slot h reads = omega (arith, lawful_head_facts h (good_lawful slot h reads))

module _ (told : Told) (keeper : ℕ) (slot : List ℕ) where
  pub good_stamp : (good : GoodHere told keeper slot) → (stamp_held told keeper slot ≡ good.head.stamp) × (0 < stamp_held told keeper slot)
  unfolding stamp_held
  good_stamp good =
      let h = good.head in
      let ours : of_desk told keeper h ≡ true = rw (equal_same_told h.told told good.of_told, eq-eqb h.keeper keeper good.of_keeper) in
      let stamp : stamp_in told keeper (read_of slot) ≡ h.stamp = rw (good.reads, ours) in
      (stamp, omega (arith, lawful_head_facts h (good_lawful slot h good.reads), stamp))

  pub stamp_good : 0 < stamp_held told keeper slot → GoodHere told keeper slot
  unfolding stamp_held
  stamp_good = read (read_of slot) refl
    where
      read : (reading : Reading) → read_of slot ≡ reading → 0 < stamp_in told keeper reading → GoodHere told keeper slot
      read (Good h) reads stamped = ours (of_desk told keeper h) refl stamped
        where
          ours : (our : Bool) → of_desk told keeper h ≡ our → 0 < cond our h.stamp 0 → GoodHere told keeper slot
          ours true e stamped = record { head = h; reads = reads; of_told = search (passed, same_told_equal); of_keeper = search passed }
          ours false e stamped = absurd (omega arith)
      read (Bad number place) reads stamped = absurd (omega arith)
