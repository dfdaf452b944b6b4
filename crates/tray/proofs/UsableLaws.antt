-- What it says that a slot is usable: it reads as good, with the head that its keeper's letter has.
-- Assumes nothing.
use Rattle.std.specs.Prelude.{ℕ, ◌≡◌, refl, true, List}
use Rattle.std.proofs.Common.{ap}
use Rattle.std.proofs.lemmas.Bool.{false≢true}
use Rattle.header.specs.declared.told.Told.{Told}
use Rattle.header.specs.declared.head.Head.{Head}
use Rattle.header.specs.HeadLaws.{HeadFacts, lawful_head_facts, same_head_equal, equal_same_head}
use Rattle.format.specs.Reading.{Reading, Good, Bad, read_of}
use Rattle.format.specs.ReadingBounds.{good_lawful}
use Rattle.tray.specs.Tray.{head_for, reads_as, slot_of, usable}

reads_good : (reading : Reading) (h : Head) → reads_as reading h ≡ true → reading ≡ Good h
reads_good (Good g) h e = ap Good (same_head_equal g h e)
reads_good (Bad number place) h e = absurd (false≢true e)

module _ (told : Told) (stamp l : ℕ) (tray : List ℕ) (x : ℕ) where
  pub usable_reads : usable told stamp l tray x ≡ true → read_of (slot_of tray x) ≡ Good (head_for told stamp l x)
  unfolding usable
  usable_reads e = reads_good (read_of (slot_of tray x)) (head_for told stamp l x) e

  pub reads_usable : read_of (slot_of tray x) ≡ Good (head_for told stamp l x) → usable told stamp l tray x ≡ true
  unfolding usable
  reads_usable e = rw e (equal_same_head (head_for told stamp l x) (head_for told stamp l x) refl)

  pub usable_as : (reading : Reading) → read_of (slot_of tray x) ≡ reading → usable told stamp l tray x ≡ reads_as reading (head_for told stamp l x)
  unfolding usable
  usable_as reading e = rw e

  -- a usable slot is that of a keeper of the order, and its key, stamp and length are lawful
  pub usable_facts : usable told stamp l tray x ≡ true → HeadFacts (head_for told stamp l x)
  usable_facts e = lawful_head_facts (head_for told stamp l x) (good_lawful (slot_of tray x) (head_for told stamp l x) (usable_reads e))
