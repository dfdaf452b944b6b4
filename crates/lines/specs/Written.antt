-- Bytes written from a place on, and the place after them.
-- Assumes nothing.
use Rattle.std.specs.Prelude.{ℕ, ◌+◌, ◌<◌, ◌≤◌, ◌≡◌, List, [], ◌∷◌, ◌++◌, length, set}
use Rattle.std.proofs.Common.{sym, ◌∙◌, arith, length-append}
use Rattle.lists.specs.Patched.{patched, patched_none, patched_more, set-patched}

pub record Written (before : List ℕ) (at : ℕ) (bytes after : List ℕ) (next : ℕ) : Type 0 where
  pub laid : after ≡ patched before at bytes
  pub place : next ≡ at + length bytes

pub written_none : (before : List ℕ) (at : ℕ) → Written before at [] before at
written_none before at = record { laid = sym (patched_none before at); place = omega arith }

-- one byte more, by a store
pub written_store : {before bytes after : List ℕ} {at next : ℕ} (byte : ℕ) → next < length before → Written before at bytes after next
    → Written before at (bytes ++ (byte ∷ [])) (set after next byte) (next + 1)
written_store {before} {bytes} {after} {at} {next} byte room w =
    record {
      laid = rw (w.laid, w.place) (set-patched before at bytes byte (omega arith));
      place = rw length-append (omega arith);
    }

-- what is written right behind is written in one
pub written_more : {before bytes between more after : List ℕ} {at middle next : ℕ} → middle ≤ length before
    → Written before at bytes between middle → Written between middle more after next
    → Written before at (bytes ++ more) after next
written_more {before} {bytes} {between} {more} {after} {at} {middle} {next} room first second =
    record {
      laid = second.laid ∙ rw (first.laid, first.place) (patched_more before at bytes more (omega arith));
      place = rw length-append (omega arith);
    }
