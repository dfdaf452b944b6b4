-- Looking for the parts that differ, part by part.
-- Assumes nothing.
use Prim.Native.Nat.{ℕ, suc, ◌+◌, ◌<◌, ◌≤◌}
use mathlib.Core.Path.{◌≡◌, refl, sym, ap, ◌∙◌}
use mathlib.Core.Bool.{Bool, true, false}
use mathlib.Core.List.{List, [], ◌∷◌, ◌++◌}
use native.Mathlib.Nat.{zero-add, add-zero}
use native.Mathlib.Omega.{arith}
use lib.ListN.{length, set, take, drop, length-append, length-set}
use lib.Seq.{set_split, take_at, append_snoc, length-take-le}
use Rattle.lists.specs.Chosen.{chosen}
use Rattle.lists.specs.ChosenFrom.{chosen_joined, chosen_skipped, chosen_most}
use Rattle.lists.specs.Count.{bit}
use Rattle.lists.specs.From.{from}
use Rattle.compare.specs.Parts.{part_differs, Looked}

-- what stands before a store, and with it
module _ (xs : List ℕ) (i y : ℕ) (within : i < length xs) where
  front : length (take i xs) ≡ i
  front = length-take-le i xs (omega arith)

  take-before : take i (set xs i y) ≡ take i xs
  take-before = rw (set_split xs i y within) (take_at (take i xs) (y ∷ drop (suc i) xs) i front)

  take_with : take (i + 1) (set xs i y) ≡ take i xs ++ (y ∷ [])
  take_with =
      let long : length (take i xs ++ (y ∷ [])) ≡ i + 1 = rw length-append (omega (arith, front)) in
      rw (set_split xs i y within, ← append_snoc (take i xs) y (drop (suc i) xs)) (take_at (take i xs ++ (y ∷ [])) (drop (suc i) xs) (i + 1) long)

module _ {first second old : List ℕ} where
  pub looked_none : Looked first second 0 old old 0
  unfolding chosen from
  looked_none = record { many = refl; listed = refl; size = refl }

  module _ {p : ℕ} {left : List ℕ} {parts : ℕ} (before : Looked first second p old left parts) where
    pub looked_parts : parts ≤ p
    looked_parts = omega (arith, before.many, chosen_most (part_differs first second) 0 p)

    module _ (room : parts < length left) where
      same : part_differs first second p ≡ false → Looked first second (p + 1) old (set left parts p) parts
      same e =
          let skipped = chosen_skipped (part_differs first second) 0 p (rw zero-add e) in
          record {
            many = before.many ∙ ap length (sym skipped);
            listed = take-before left parts p room ∙ (before.listed ∙ sym skipped);
            size = rw length-set before.size;
          }

      other : part_differs first second p ≡ true → Looked first second (p + 1) old (set left parts p) (parts + 1)
      other e =
          let joined = rw zero-add at (chosen_joined (part_differs first second) 0 p (rw zero-add e)) in
          record {
            many = rw (joined, length-append) (omega (arith, before.many));
            listed = take_with left parts p room ∙ rw (before.listed, joined);
            size = rw length-set before.size;
          }

      pub looked_next : {more : ℕ} → more ≡ bit (part_differs first second p) → Looked first second (p + 1) old (set left parts p) (parts + more)
      looked_next {more} m = step (part_differs first second p) refl
        where
          step : (b : Bool) → part_differs first second p ≡ b → Looked first second (p + 1) old (set left parts p) (parts + more)
          step true e = rw (m, e) (other e)
          step false e = rw (m, e, add-zero) (same e)
