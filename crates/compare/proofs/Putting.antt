-- Writing the places of parts that differ, word by word and part by part.
-- Assumes nothing.
use Prim.Native.Nat.{ℕ, ◌+◌, ◌*◌, ◌<◌, ◌≤◌}
use mathlib.Core.Path.{◌≡◌, refl, sym, ap, ◌∙◌}
use mathlib.Core.Bool.{Bool, true, false}
use mathlib.Core.List.{List, [], ◌∷◌, ◌++◌, map, map-append}
use native.Mathlib.Omega.{arith}
use lib.ListN.{length, get_or, set, take, drop, length-append, length-map, take-append-drop}
use lib.Seq.{take_all}
use Rattle.lists.specs.Chosen.{chosen}
use Rattle.lists.specs.ChosenFrom.{chosen_joined, chosen_skipped, chosen_up_to}
use Rattle.lists.specs.From.{from}
use Rattle.lists.specs.Patched.{patched_none, patched_more, set-patched, length-patched}
use Rattle.compare.specs.Compare.{differs, difference}
use Rattle.compare.specs.Parts.{in_part, in_parts, Laid}
use Rattle.compare.proofs.PartLaws.{in_parts-append, in_parts_more, length_more}

module _ {rule : ℕ → List ℕ} {old : List (List ℕ)} {at : ℕ} where
  pub laid_none : at ≤ length old → Laid rule old at [] old at
  laid_none h = record { fits = omega arith; behind = omega arith; laid = sym (patched_none old at) }

  module _ {places : List ℕ} {list : List (List ℕ)} {next : ℕ} (before : Laid rule old at places list next) where
    rows : length (map rule places) ≡ length places
    rows = length-map places rule

    pub laid_size : length list ≡ length old
    laid_size = ap length before.laid ∙ length-patched old at (map rule places) (omega (arith, rows, before.fits))

    -- one place more, by a store
    pub laid_more : {i : ℕ} {row : List ℕ} → at + length places < length old → row ≡ rule i
        → Laid rule old at (places ++ (i ∷ [])) (set list next row) (next + 1)
    laid_more {i} {row} room e =
        let here : next ≡ at + length (map rule places) = omega (arith, rows, before.behind) in
        record {
          fits = rw length-append (omega arith);
          behind = rw length-append (omega (arith, before.behind));
          laid = rw (e, before.laid, here, map-append) (set-patched old at (map rule places) (rule i) (omega (arith, rows)));
        }

    -- the places of a part more, by a call
    pub laid_part : {more : List ℕ} {left : List (List ℕ)} {then : ℕ} → Laid rule list next more left then → Laid rule old at (places ++ more) left then
    laid_part {more} {left} {then} part =
        let here : next ≡ at + length (map rule places) = omega (arith, rows, before.behind) in
        record {
          fits = rw length-append (omega (arith, part.fits, before.behind, laid_size));
          behind = rw length-append (omega (arith, part.behind, before.behind));
          laid =
              part.laid ∙ rw (before.laid, here, map-append)
              (patched_more old at (map rule places) (map rule more) (omega (arith, rows, before.fits)));
        }

-- of the numbers from a on, j are looked at, and those that pass are laid
pub record LaidTo (test : ℕ → Bool) (a : ℕ) (rule : ℕ → List ℕ) (old : List (List ℕ)) (at j : ℕ) (list : List (List ℕ)) (next : ℕ) : Type 0 where
  pub within : j ≤ 8
  pub laid_to : Laid rule old at (chosen test (from a j)) list next

module _ {test : ℕ → Bool} {a : ℕ} {rule : ℕ → List ℕ} {old : List (List ℕ)} {at : ℕ} where
  pub to_none : at ≤ length old → LaidTo test a rule old at 0 old at
  unfolding chosen from
  to_none h = record { within = omega arith; laid_to = laid_none h }

  module _ {j : ℕ} {list : List (List ℕ)} {next : ℕ} (before : LaidTo test a rule old at j list next) where
    pub to_all : 8 ≤ j → Laid rule old at (chosen test (from a 8)) list next
    to_all h = let all : j ≡ 8 = omega (arith, before.within) in rw all at before.laid_to

    module _ (more : j < 8) where
      pub to_skipped : test (a + j) ≡ false → LaidTo test a rule old at (j + 1) list next
      to_skipped e = record { within = omega arith; laid_to = rw (chosen_skipped test a j e) before.laid_to }

      -- there is room for all that pass, so for this one
      module _ (room : at + length (chosen test (from a 8)) ≤ length old) (e : test (a + j) ≡ true) where
        pub to_room : next < length list
        to_room =
            let one : length (chosen test (from a (j + 1))) ≡ length (chosen test (from a j)) + 1 = rw (chosen_joined test a j e, length-append) refl in
            omega (arith, laid_size before.laid_to, before.laid_to.behind, chosen_up_to test a (j + 1) 8 (omega arith))

        pub to_joined : {row : List ℕ} → row ≡ rule (a + j) → LaidTo test a rule old at (j + 1) (set list next row) (next + 1)
        to_joined r = record {
          within = omega arith;
          laid_to = rw (chosen_joined test a j e) (laid_more before.laid_to (omega (arith, laid_size before.laid_to, before.laid_to.behind, to_room)) r);
        }

-- the same of the words of a part
module _ (first second : List ℕ) (p : ℕ) {rule : ℕ → List ℕ} {old : List (List ℕ)} {at j : ℕ} {list : List (List ℕ)} {next : ℕ} where
  pub part_room : LaidTo (differs first second) (8 * p) rule old at j list next → j < 8 → at + length (in_part first second p) ≤ length old
      → differs first second (8 * p + j) ≡ true → next < length list
  unfolding in_part
  part_room before more room e = to_room before more room e

  pub part_joined : LaidTo (differs first second) (8 * p) rule old at j list next → j < 8 → at + length (in_part first second p) ≤ length old
      → differs first second (8 * p + j) ≡ true → {row : List ℕ} → row ≡ rule (8 * p + j)
      → LaidTo (differs first second) (8 * p) rule old at (j + 1) (set list next row) (next + 1)
  unfolding in_part
  part_joined before more room e r = to_joined before more room e r

-- of the parts, the places of the first q are laid
pub record LaidParts (first second : List ℕ) (old : List (List ℕ)) (parts : List ℕ) (q : ℕ) (list : List (List ℕ)) (next : ℕ) : Type 0 where
  pub within : q ≤ length parts
  pub laid_parts : Laid (difference first second) old 0 (in_parts first second (take q parts)) list next

module _ {first second : List ℕ} {old : List (List ℕ)} {parts : List ℕ} where
  pub parts_none : LaidParts first second old parts 0 old 0
  unfolding in_parts
  parts_none = record { within = omega arith; laid_parts = laid_none (omega arith) }

  module _ {q : ℕ} {list : List (List ℕ)} {next : ℕ} (before : LaidParts first second old parts q list next) where
    pub parts_all : length parts ≤ q → Laid (difference first second) old 0 (in_parts first second parts) list next
    parts_all h = rw (take_all q parts h) at before.laid_parts

    module _ (room : length (in_parts first second parts) ≤ length old) (more : q < length parts) where
      enough : length (in_parts first second (take q parts)) + length (in_part first second (get_or parts q 0)) ≤ length old
      enough =
          let some = in_parts first second (take (q + 1) parts) in
          let rest = in_parts first second (drop (q + 1) parts) in
          let split : length (in_parts first second parts) ≡ length some + length rest =
          rw (take-append-drop (q + 1) parts) at (ap (λ (ps : List ℕ). length ps) (in_parts-append first second (take (q + 1) parts) (drop (q + 1) parts)) ∙ length-append some rest) in
          omega (arith, length_more first second parts q more)

      pub parts-room : next + length (in_part first second (get_or parts q 0)) ≤ length list
      parts-room = omega (arith, enough, laid_size before.laid_parts, before.laid_parts.behind)

      pub parts_more : {left : List (List ℕ)} {then : ℕ} → Laid (difference first second) list next (in_part first second (get_or parts q 0)) left then
          → LaidParts first second old parts (q + 1) left then
      parts_more part = record { within = omega arith; laid_parts = rw (in_parts_more first second parts q more) (laid_part before.laid_parts part) }
