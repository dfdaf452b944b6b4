-- Scanning a tray, keeper after keeper.
-- Assumes nothing.
use Prim.Native.Nat.{ℕ, ◌+◌, ◌-◌, ◌*◌, ◌%◌, ◌^◌, ◌<◌, ◌≤◌}
use mathlib.Core.Path.{◌≡◌, refl, sym, ap, ◌∙◌}
use mathlib.Core.Bool.{true, false, true≢false}
use mathlib.Core.List.{List, ◌++◌}
use mathlib.Core.Logic.{⊎_elim}
use native.Mathlib.Nat.{eq-or-lt_of_le, one-mul}
use native.Mathlib.Omega.{arith}
use lib.ListN.{length, get_or, take, drop, length-take, length-drop}
use lib.Pow.{shl_exact}
use lib.Seq.{drop-drop}
use Rattle.lists.specs.Below.{Below}
use Rattle.lists.specs.KeeperSet.{keeper_set}
use Rattle.lists.specs.KeeperSetLaws.{keeper_set_lt, keeper_set_joined, keeper_set_skipped, joined_below}
use Rattle.lists.specs.Patched.{patched, length-patched, below_patched}
use Rattle.lists.specs.PatchedAt.{patched-before, patched_in}
use Rattle.header.specs.declared.told.Told.{Told}
use Rattle.format.specs.Reading.{shares_of}
use Rattle.format.specs.GoodWritten.{Written, good_written}
use Rattle.tray.specs.Tray.{head_for, slot_of, usable, word_of}
use Rattle.tray.specs.Scan.{Scannable, Scanned}
use Rattle.tray.specs.SlotLaws.{length-slot, below_slot}
use Rattle.tray.proofs.UsableLaws.{usable_reads, usable_facts}

-- of the keepers, 1..k are scanned
pub record ScannedTo (told : Told) (stamp l : ℕ) (tray : List ℕ) (set : ℕ) (rows : List ℕ) (k : ℕ) : Type 0 where
  pub reached : k ≤ told.order.n
  pub keepers : set ≡ keeper_set (usable told stamp l tray) k
  pub size : length rows ≡ 15232
  pub below : Below 257 rows
  pub words : (x i : ℕ) → x ≤ k → usable told stamp l tray x ≡ true → i < l → get_or rows (952 * (x - 1) + i) 0 ≡ word_of tray l x i

module _ {told : Told} {stamp l : ℕ} {tray rows₀ : List ℕ} (asked : Scannable told l tray rows₀) where
  pub scanned_none : ScannedTo told stamp l tray 0 rows₀ 0
  unfolding keeper_set
  scanned_none = record {
    reached = omega arith;
    keepers = refl;
    size = asked.room;
    below = asked.clean;
    words = λ x i most u h. absurd (omega (arith, usable_facts told stamp l tray x u));
  }

  module _ {set : ℕ} {rows : List ℕ} {k : ℕ} (before : ScannedTo told stamp l tray set rows k) where
    pub scanned_all : told.order.n ≤ k → Scanned told stamp l tray set rows
    scanned_all past =
        let last : k ≡ told.order.n = omega arith in
        record {
          keepers = before.keepers ∙ ap (keeper_set (usable told stamp l tray)) last;
          size = before.size;
          below = before.below;
          words = λ x i u h. before.words x i (omega (arith, usable_facts told stamp l tray x u)) u h;
        }

    module _ (within : k < told.order.n) where
      pub slot_size : {slot : List ℕ} → slot ≡ slot_of tray (k + 1) → length slot ≡ 2048
      slot_size here = ap length here ∙ length-slot tray (k + 1) (omega arith) (omega (arith, asked))

      one_bit : 1 * 2 ^ k % 65536 ≡ 2 ^ k
      one_bit = shl_exact {a = 1} 1 k 16 (omega arith) (omega (arith, asked)) ∙ one-mul (2 ^ k)

      pub room_for_bit : set + 1 * 2 ^ k % 65536 < 65536
      room_for_bit =
          rw (one_bit, before.keepers)
          (joined_below (keeper_set (usable told stamp l tray) k) k (keeper_set_lt (usable told stamp l tray) k) 16 (omega (arith, asked)))

      pub scanned_skipped : usable told stamp l tray (k + 1) ≡ false → ScannedTo told stamp l tray set rows (k + 1)
      scanned_skipped fails = record {
        reached = omega arith;
        keepers = before.keepers ∙ sym (keeper_set_skipped (usable told stamp l tray) k fails);
        size = before.size;
        below = before.below;
        words = λ x i most u h.
            ⊎_elim (λ (e : x ≡ k + 1). absurd (true≢false (sym u ∙ ap (usable told stamp l tray) e ∙ fails)))
            (λ earlier. before.words x i (omega arith) u h)
            (eq-or-lt_of_le most);
      }

      module _ (joins : usable told stamp l tray (k + 1) ≡ true) (bytes : Below 256 tray) {words : List ℕ} (read : words ≡ shares_of (slot_of tray (k + 1)) l) where
        written : Written (slot_of tray (k + 1)) (head_for told stamp l (k + 1))
        written =
            good_written (slot_of tray (k + 1)) (head_for told stamp l (k + 1)) (below_slot tray (k + 1) 256 bytes)
            (usable_reads told stamp l tray (k + 1) joins)

        words_size : length words ≡ l
        words_size = ap length read ∙ written.size

        words_here : (i : ℕ) → i < l → get_or (patched rows (952 * k) words) (952 * k + i) 0 ≡ word_of tray l (k + 1) i
        unfolding word_of
        words_here i h =
            patched_in rows (952 * k) words (omega (arith, asked)) i (omega (arith, words_size)) ∙ ap (λ ws. get_or ws i 0) read

        words_up_to : (x i : ℕ) → x ≤ k + 1 → usable told stamp l tray x ≡ true → i < l
            → get_or (patched rows (952 * k) words) (952 * (x - 1) + i) 0 ≡ word_of tray l x i
        words_up_to x i most u h =
            let facts = usable_facts told stamp l tray x u in
            let here : k + 1 - 1 ≡ k = omega arith in
            ⊎_elim (λ (e : x ≡ k + 1). rw (e, here) (words_here i h))
            (λ earlier. patched-before rows (952 * k) words (omega (arith, asked)) (952 * (x - 1) + i) (omega (arith, asked)) ∙ before.words x i (omega arith) u h)
            (eq-or-lt_of_le most)

        scanned_with : ScannedTo told stamp l tray (set + 2 ^ k) (patched rows (952 * k) words) (k + 1)
        scanned_with = record {
          reached = omega arith;
          keepers = ap (λ s. s + 2 ^ k) before.keepers ∙ sym (keeper_set_joined (usable told stamp l tray) k joins);
          size = length-patched rows (952 * k) words (omega (arith, asked, words_size)) ∙ before.size;
          below = below_patched 257 rows (952 * k) words before.below (rw read written.below);
          words = words_up_to;
        }

      -- the keeper's row was lent as a part of the rows
      pub scanned_joined : {slot words : List ℕ} → usable told stamp l tray (k + 1) ≡ true → Below 256 tray → slot ≡ slot_of tray (k + 1)
          → let part = 952 * k + l - 952 * k in
          let rest = drop (952 * k) rows in
          words ≡ shares_of slot (length (take part rest))
          → ScannedTo told stamp l tray (set + 1 * 2 ^ k % 65536) (take (952 * k) rows ++ (words ++ drop part rest)) (k + 1)
      scanned_joined {slot} {words} joins bytes here read =
          let whole : 952 * k + l - 952 * k ≡ l = omega arith in
          let part : length (take l (drop (952 * k) rows)) ≡ l = rw (length-take, length-drop) (omega (arith, asked)) in
          let are : words ≡ shares_of (slot_of tray (k + 1)) l = rw (here, whole, part) at read in
          rw (one_bit, whole, drop-drop) (rw (words_size joins bytes are) at (scanned_with joins bytes are))
