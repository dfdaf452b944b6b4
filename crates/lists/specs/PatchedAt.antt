-- What stands at a place of a list with another laid over it: before the place it was laid at, and in it.
-- Assumes nothing.
use Rattle.std.specs.Prelude.{ℕ, ◌+◌, ◌<◌, ◌≤◌, ◌≡◌, List, ◌++◌, length, get_or, take, drop}
use Rattle.std.proofs.Common.{sym, ap, ◌∙◌, arith, length-take-le, get_or-take, get_or-append-add}
use Rattle.std.proofs.Math.ListN.{get_or-append}
use Rattle.lists.specs.Patched.{patched}

module _ (xs : List ℕ) (a : ℕ) (ys : List ℕ) (within : a ≤ length xs) where
  front : length (take a xs) ≡ a
  front = length-take-le a xs within

  pub patched-before : (i : ℕ) → i < a → get_or (patched xs a ys) i 0 ≡ get_or xs i 0
  patched-before i h =
      get_or-append (take a xs) (ys ++ drop (a + length ys) xs) 0 i (omega (arith, front)) ∙ get_or-take a xs i 0 h

  pub patched_in : (i : ℕ) → i < length ys → get_or (patched xs a ys) (a + i) 0 ≡ get_or ys i 0
  patched_in i h =
      ap (λ n. get_or (patched xs a ys) (n + i) 0) (sym front)
      ∙ (get_or-append-add (take a xs) (ys ++ drop (a + length ys) xs) i 0
      ∙ get_or-append ys (drop (a + length ys) xs) 0 i h)
