-- Pieces of one size that a loop lays end to end, each into a part lent for it: columns side by side, rows, slots in a tray.
-- Assumes nothing.
use Rattle.std.specs.Prelude.{ℕ, ◌+◌, ◌-◌, ◌*◌, ◌≤◌, ◌≡◌, take, drop}
use Rattle.std.proofs.Math.Path.{sym}
use Rattle.std.proofs.Common.{◌∙◌, add-one, length-append, length-drop, take_all}
use mathlib.Core.List.{List, ◌++◌, append_assoc}
use Rattle.std.proofs.Math.Nat.{add-sub_cancel_left, mul-zero, mul-one, mul-suc}
use native.Mathlib.Omega.{arith}
use Rattle.std.proofs.Math.ListN.{length}
use Rattle.std.proofs.Math.Seq.{length-take-le, take_at}
use borrow.Rule.Slice.PartMut.{put_mid, mid_len, same_len_mid}
use Rattle.lists.specs.Pieces.{pieces}

-- the part of n numbers from a on that is lent
pub part_is : (a n : ℕ) (xs : List ℕ) → take (a + n - a) (drop a xs) ≡ take n (drop a xs)
part_is a n xs = rw add-sub_cancel_left

pub length_part : (a n : ℕ) (xs : List ℕ) → a + n ≤ length xs → length (take (a + n - a) (drop a xs)) ≡ n
length_part a n xs h = mid_len a (a + n) xs h ∙ omega arith

module _ (n : ℕ) (f : ℕ → List ℕ) (total : ℕ) where
  -- of total numbers the first k pieces stand
  pub record Laying (k : ℕ) (now : List ℕ) : Type 0 where
    pub size : length now ≡ total
    pub laid : take (n * k) now ≡ pieces f k

  pub laying_none : (now : List ℕ) → length now ≡ total → Laying 0 now
  unfolding pieces
  laying_none now size = record { size = size; laid = rw mul-zero }

  -- the first piece is laid to the front
  pub laying_first : (old first : List ℕ) → n ≤ length old → length old ≡ total → length first ≡ n → first ≡ f 0 → Laying 1 (first ++ drop n old)
  unfolding pieces
  laying_first old first within size one e =
      record {
        size = rw (length-append, length-drop) (omega arith);
        laid = rw mul-one (take_at first (drop n old) n one ∙ e);
      }

  pub laying_more : (now : List ℕ) (k : ℕ) (piece : List ℕ) → Laying k now → n * k + n ≤ total → length piece ≡ n → piece ≡ f k
      → Laying (k + 1) (put_mid (n * k) (n * k + n - n * k) now piece)
  unfolding pieces
  laying_more now k piece h within one e =
      let room : n * k + n ≤ length now = omega arith in
      let front : length (take (n * k) now ++ piece) ≡ n * k + n = rw (length-append, length-take-le (n * k) now (omega arith), one) in
      record {
        size = same_len_mid (n * k) (n * k + n - n * k) now piece (one ∙ sym (length_part (n * k) n now room)) ∙ h.size;
        laid = rw (add-one, mul-suc, ← append_assoc, take_at (take (n * k) now ++ piece) _ (n * k + n) front, h.laid, e);
      }

  pub laying_done : (now : List ℕ) (k : ℕ) → Laying k now → total ≡ n * k → now ≡ pieces f k
  laying_done now k h all = sym (take_all (n * k) now (omega arith)) ∙ h.laid
