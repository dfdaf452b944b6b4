-- What is read of a tray in which keepers 1, 2 and so on hold letters of given share words.
-- Assumes nothing.
use Rattle.std.specs.Prelude.{ℕ, zero, suc, ◌-◌, ◌*◌, ◌<◌, ◌≤◌, ◌≡◌, true, List, [], leb, length, get_or}
use Rattle.std.proofs.Math.Path.{sym}
use Rattle.std.proofs.Common.{◌∙◌, sub-one, arith}
use Rattle.std.proofs.Math.Logic.{by_cases}
use Rattle.std.proofs.Math.Decide.{dec_lt}
use Rattle.std.proofs.Math.Nat.{mul_comm}
use Rattle.std.proofs.lemmas.List.{length-replicate}
use borrow.Author.Tests.{lt-ltb, le-ltb, le-leb, lt-leb, leb-true}
use Rattle.lists.specs.Pieces.{length-pieces, part-pieces}
use Rattle.header.specs.declared.told.Told.{Told}
use Rattle.header.specs.Head.{lawful_head}
use Rattle.header.specs.OrderLaws.{facts_lawful_keeper}
use Rattle.format.specs.Letter.{letter_bytes}
use Rattle.format.specs.WrittenReads.{Reads, written_reads}
use Rattle.format.specs.Zeros.{zero_slot, zeros_read}
use Rattle.tray.specs.Tray.{head_for, slot_of, usable, word_of}
use Rattle.agree.specs.ScanLaws.{SameScan}
use Rattle.tray.proofs.UsableLaws.{reads_usable}
use Rattle.demands.specs.HeldTray.{held_slot, held_tray, Held}

module _ {told : Told} {stamp l : ℕ} {rows : List (List ℕ)} (H : Held told stamp l rows) where
  abbrev tray : List ℕ
  tray = held_tray told stamp l rows

  module _ (k : ℕ) (h : k < told.order.n) where
    held_reads : k < length rows → Reads (head_for told stamp l (suc k)) (get_or rows k [])
    unfolding lawful_head
    held_reads g =
        written_reads (head_for told stamp l (suc k)) (get_or rows k [])
        (rw (H.told_lawful, facts_lawful_keeper told.order (suc k) (omega arith), H.stamp_lawful) H.length_lawful) (H.size k g) (H.below k g)

    held-letter : k < length rows → held_slot told stamp l rows k ≡ letter_bytes (head_for told stamp l (suc k)) (get_or rows k [])
    unfolding held_slot
    held-letter g = rw (lt-ltb k (length rows) g)

    held_zeros : length rows ≤ k → held_slot told stamp l rows k ≡ zero_slot
    unfolding held_slot
    held_zeros g = rw (le-ltb k (length rows) g)

    length-held : length (held_slot told stamp l rows k) ≡ 2048
    length-held =
        by_cases (dec_lt k (length rows)) (λ g. rw (held-letter g) (held_reads g).size) (λ g. rw (held_zeros (omega arith)) (length-replicate {A = ℕ} 2048 0))

  pub length-held_tray : length tray ≡ 2048 * told.order.n
  unfolding held_tray
  length-held_tray = length-pieces 2048 (held_slot told stamp l rows) told.order.n length-held ∙ mul_comm told.order.n 2048

  module _ (k : ℕ) (h : k < told.order.n) where
    slot_held : slot_of tray (suc k) ≡ held_slot told stamp l rows k
    unfolding slot_of held_tray
    slot_held = rw (sub-one (suc k)) (part-pieces 2048 (held_slot told stamp l rows) told.order.n length-held k h)

    usable-held : leb (suc k) (length rows) ≡ usable told stamp l tray (suc k)
    unfolding usable
    usable-held = by_cases (dec_lt k (length rows))
        (λ g. le-leb (suc k) (length rows) g ∙ sym (reads_usable told stamp l tray (suc k) (rw (slot_held, held-letter k h g) (held_reads k h g).good)))
        (λ g. lt-leb (suc k) (length rows) (omega arith) ∙ rw (slot_held, held_zeros k h (omega arith), zeros_read))

    words-held : k < length rows → (i : ℕ) → get_or (get_or rows k []) i 0 ≡ word_of tray l (suc k) i
    unfolding word_of
    words-held g i = rw (slot_held, held-letter k h g, (held_reads k h g).same_shares)

  same_usable : (x : ℕ) → 1 ≤ x → x ≤ told.order.n → leb x (length rows) ≡ usable told stamp l tray x
  same_usable zero least most = absurd (omega arith)
  same_usable (suc k) least most = usable-held k most

  same_words : (x : ℕ) → 1 ≤ x → x ≤ told.order.n → leb x (length rows) ≡ true → (i : ℕ) → i < l → get_or (get_or rows (x - 1) []) i 0 ≡ word_of tray l x i
  same_words zero least most u i h = absurd (omega arith)
  same_words (suc k) least most u i h = rw (sub-one (suc k)) (words-held k most (leb-true (suc k) (length rows) u) i)

  -- the scan of that tray
  pub scan_held : SameScan told.order.n l (λ x. leb x (length rows)) (usable told stamp l tray) (λ x i. get_or (get_or rows (x - 1) []) i 0) (word_of tray l)
  scan_held = record { same_usable = same_usable; same_words = same_words }
