-- Where the bytes of a part are the same, no word of it differs: so the places that differ are those of the parts that do.
-- Assumes nothing.
use Rattle.std.specs.Prelude.{ℕ, zero, suc, ◌+◌, ◌-◌, ◌*◌, ◌<◌, ◌≤◌, ◌≡◌, Bool, true, false, not, ltb, length, get_or, take}
use Rattle.std.proofs.Math.Path.{refl}
use Rattle.std.proofs.Common.{sym, ap, ◌∙◌, zero-add, add-one, take-suc, eq-eqb, lt-ltb, le-ltb, ltb-true, ltb-false}
use mathlib.Core.List.{List, [], ◌∷◌, ◌++◌, append_assoc, append-nil}
use native.Mathlib.Omega.{arith}
use Rattle.std.proofs.Math.ListN.{length-append}
use Rattle.std.proofs.lemmas.Bool.{not-false}
use Rattle.lists.specs.Chosen.{chosen, chosen-append, chosen_none}
use Rattle.lists.specs.ChosenFrom.{chosen_joined, chosen_skipped, chosen_most}
use Rattle.lists.specs.From.{from, from-add, from_in}
use Rattle.lists.specs.SameBytes.{same_bytes_equal}
use Rattle.block.specs.Words.{words_of}
use Rattle.compare.specs.Compare.{differs}
use Rattle.compare.proofs.CompareLaws.{word_of_part, differs-words}
use Rattle.compare.specs.Parts.{part_of, part_differs, in_part, in_parts, beyond, HaveParts}

module _ (places many : ℕ) where
  pub beyond_none : many ≤ places → beyond places many ≡ 0
  unfolding beyond
  beyond_none h = rw (le-ltb places many h)

  pub beyond_all : places < many → beyond places many ≡ many
  unfolding beyond
  beyond_all h = rw (lt-ltb places many h)

  -- what it tells
  pub beyond_enough : beyond places many ≡ 0 → many ≤ places
  beyond_enough e = step (ltb places many) refl
    where
      step : (b : Bool) → ltb places many ≡ b → many ≤ places
      step true t = omega (arith, beyond_all (ltb-true places many t))
      step false t = ltb-false places many t

  pub beyond_short : (beyond places many ≡ 0 → ⊥) → (places < many) × (beyond places many ≡ many)
  beyond_short w = step (ltb places many) refl
    where
      step : (b : Bool) → ltb places many ≡ b → (places < many) × (beyond places many ≡ many)
      step true t = (ltb-true places many t, beyond_all (ltb-true places many t))
      step false t = absurd (w (beyond_none (ltb-false places many t)))

pub have_fewer : {first second : List ℕ} {m p : ℕ} → HaveParts first second m → p < m → HaveParts first second (p + 1)
have_fewer has h = record { few = omega (arith, has); in_first = omega (arith, has); in_second = omega (arith, has) }

module _ (first second : List ℕ) where
  pub in_parts-append : (ps qs : List ℕ) → in_parts first second (ps ++ qs) ≡ in_parts first second ps ++ in_parts first second qs
  unfolding in_parts
  in_parts-append [] qs = refl
  in_parts-append (p ∷ ps) qs = rw (in_parts-append ps qs, append_assoc)

  part-word : (tray : List ℕ) (p j : ℕ) → j < 8 → get_or (words_of (part_of tray p)) j 0 ≡ get_or (words_of tray) (8 * p + j) 0
  part-word tray p j h =
      let start : 16 * p ≡ 2 * (8 * p) = omega arith in
      rw start (word_of_part tray (8 * p) 8 j h)

  same_word : (p i : ℕ) → part_of first p ≡ part_of second p → 8 * p ≤ i → i < 8 * p + 8 → differs first second i ≡ false
  same_word p i e least most =
      let j = i - 8 * p in
      let here : 8 * p + j ≡ i = omega arith in
      let one = part-word first p j (omega arith) in
      let two = part-word second p j (omega arith) in
      let alike : get_or (words_of first) i 0 ≡ get_or (words_of second) i 0 = rw here at (sym one ∙ (ap (λ part. get_or (words_of part) j 0) e ∙ two)) in
      differs-words first second i ∙ ap not (eq-eqb _ _ alike)

  pub same_part : (p : ℕ) → part_differs first second p ≡ false → in_part first second p ≡ []
  unfolding in_part part_differs
  same_part p e =
      let equal = same_bytes_equal (part_of first p) (part_of second p) (not-false _ e) in
      chosen_none (differs first second) (from (8 * p) 8)
      (λ i m. let h = from_in (8 * p) 8 i m in same_word p i equal h.0 h.1)

  -- one part more
  pub places_more : (p : ℕ) → chosen (differs first second) (from 0 (8 * (p + 1))) ≡ chosen (differs first second) (from 0 (8 * p)) ++ in_part first second p
  unfolding in_part
  places_more p =
      let more : 8 * (p + 1) ≡ 8 * p + 8 = omega arith in
      rw (more, from-add 0 (8 * p) 8, zero-add) (chosen-append (differs first second) (from 0 (8 * p)) (from (8 * p) 8))

  pub in_parts_one : (p : ℕ) → in_parts first second (p ∷ []) ≡ in_part first second p
  unfolding in_parts
  in_parts_one p = append-nil (in_part first second p)

  in_parts_none : in_parts first second (chosen (part_differs first second) (from 0 0)) ≡ chosen (differs first second) (from 0 0)
  unfolding from chosen in_parts
  in_parts_none = refl

  -- the places that differ are those of the parts that do
  pub in_parts_all : (m : ℕ) → in_parts first second (chosen (part_differs first second) (from 0 m)) ≡ chosen (differs first second) (from 0 (8 * m))
  in_parts_all zero = in_parts_none
  in_parts_all (suc m) = rw (← add-one m) (step (part_differs first second m) refl (in_parts_all m))
    where
      step : (b : Bool) → part_differs first second m ≡ b → in_parts first second (chosen (part_differs first second) (from 0 m)) ≡ chosen (differs first second) (from 0 (8 * m))
          → in_parts first second (chosen (part_differs first second) (from 0 (m + 1))) ≡ chosen (differs first second) (from 0 (8 * (m + 1)))
      step true e before =
          rw (chosen_joined (part_differs first second) 0 m (rw zero-add e), zero-add, in_parts-append (chosen (part_differs first second) (from 0 m)) (m ∷ []), in_parts_one m, before)
          (sym (places_more m))
      step false e before = rw (chosen_skipped (part_differs first second) 0 m (rw zero-add e), places_more m, same_part m e, append-nil) before

  -- a part has eight words
  pub in_part_most : (p : ℕ) → length (in_part first second p) ≤ 8
  unfolding in_part
  in_part_most p = chosen_most (differs first second) (8 * p) 8

  pub in_parts_most : (ps : List ℕ) → length (in_parts first second ps) ≤ 8 * length ps
  unfolding in_parts
  in_parts_most [] = omega arith
  in_parts_most (p ∷ ps) = rw length-append (omega (arith, in_parts_most ps, in_part_most p))

  -- one part more of some
  module _ (ps : List ℕ) (q : ℕ) (more : q < length ps) where
    pub in_parts_more : in_parts first second (take (q + 1) ps) ≡ in_parts first second (take q ps) ++ in_part first second (get_or ps q 0)
    in_parts_more =
        rw (add-one, take-suc ps q 0 more)
        (in_parts-append (take q ps) (get_or ps q 0 ∷ []) ∙ ap (λ (part : List ℕ). in_parts first second (take q ps) ++ part) (in_parts_one (get_or ps q 0)))

    pub length_more : length (in_parts first second (take (q + 1) ps)) ≡ length (in_parts first second (take q ps)) + length (in_part first second (get_or ps q 0))
    length_more = ap (λ (places : List ℕ). length places) in_parts_more ∙ length-append (in_parts first second (take q ps)) (in_part first second (get_or ps q 0))
