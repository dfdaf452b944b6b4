-- A list with another laid over it from a place on.
-- Assumes nothing.
use Rattle.std.specs.Prelude.{ℕ, ◌+◌, ◌<◌, ◌≤◌, ◌≡◌, List, [], ◌∷◌, ◌++◌, length, take, drop, set}
use Rattle.std.proofs.Common.{◌∙◌, append_assoc, add-zero, add_assoc, add-one, arith, length-append, length-take, length-drop, take-append-drop, drop-drop}
use Rattle.std.proofs.Math.Seq.{take-append_seam, drop-append-add}
use Rattle.std.proofs.lemmas.List.{set_split}
use Rattle.lists.specs.Below.{Below, below_append, below_take, below_drop}

module _ {A : Type 0} where
  abbrev pub patched : List A → ℕ → List A → List A
  patched xs a ys = take a xs ++ (ys ++ drop (a + length ys) xs)

  pub patched_none : (xs : List A) (a : ℕ) → patched xs a [] ≡ xs
  patched_none xs a = rw add-zero (take-append-drop a xs)

  pub length-patched : (xs : List A) (a : ℕ) (ys : List A) → a + length ys ≤ length xs → length (patched xs a ys) ≡ length xs
  length-patched xs a ys h = simp (length-append, length-take, length-drop) (omega arith)

  -- laid over from the seam of two lists on: the first stays
  pub patched-append : (p q : List A) (a : ℕ) (ys : List A) → length p ≡ a
      → patched (p ++ q) a ys ≡ p ++ (ys ++ drop (length ys) q)
  patched-append p q a ys e = rw (← e, take-append_seam, drop-append-add)

  -- what is laid right behind is laid over in one
  pub patched_more : (xs : List A) (a : ℕ) (ys zs : List A) → a + length ys ≤ length xs
      → patched (patched xs a ys) (a + length ys) zs ≡ patched xs a (ys ++ zs)
  patched_more xs a ys zs h =
      let e : length (take a xs ++ ys) ≡ a + length ys = simp (length-append, length-take) (omega arith) in
      let rest = drop (a + length ys) xs in
      rw (← append_assoc (take a xs) ys rest, patched-append (take a xs ++ ys) rest (a + length ys) zs e)
      (simp (append_assoc, drop-drop, length-append, add_assoc))

  -- one more, by a store
  pub set-patched : (xs : List A) (a : ℕ) (ys : List A) (y : A) → a + length ys < length xs
      → set (patched xs a ys) (a + length ys) y ≡ patched xs a (ys ++ (y ∷ []))
  set-patched xs a ys y h =
      let within : a + length ys < length (patched xs a ys) = omega (arith, length-patched xs a ys (omega arith)) in
      set_split (patched xs a ys) (a + length ys) y within
      ∙ rw (← add-one (a + length ys)) (patched_more xs a ys (y ∷ []) (omega arith))

pub below_patched : (q : ℕ) (xs : List ℕ) (a : ℕ) (ys : List ℕ) → Below q xs → Below q ys → Below q (patched xs a ys)
below_patched q xs a ys bx by =
    let rest = drop (a + length ys) xs in
    below_append q (take a xs) (ys ++ rest) (below_take q a xs bx) (below_append q ys rest by (below_drop q (a + length ys) xs bx))
