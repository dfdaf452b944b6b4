-- Words laid over others one draw after the other, as many as there is room for.
-- Assumes nothing.
use Rattle.std.specs.Prelude.{ℕ, zero, suc, ◌+◌, ◌-◌, ◌<◌, ◌≤◌, ◌≡◌, List, [], ◌∷◌, ◌++◌, length, get_or, take, set, Some, None}
use Rattle.std.proofs.Common.{sym, ap, ap₂, ◌∙◌, add-one, arith, length-append, length-take, take_all, take-suc}
use Rattle.std.proofs.lemmas.List.{set_split}
use Rattle.std.proofs.lemmas.List.Elements.{filter_map-append}
use Rattle.std.proofs.Math.Nat.{sub-zero, suc-sub-suc}
use Rattle.std.proofs.Math.Seq.{take-nil}
use Rattle.lists.specs.Patched.{patched, patched_none, patched_more, length-patched}
use Rattle.chance.specs.Draw.{drawn, words_drawn, Laid}

-- one draw more at the end: its word too, if it is taken
pub drawn_more : (draws : List ℕ) (i : ℕ) → i < length draws
    → words_drawn (take (i + 1) draws) ≡ words_drawn (take i draws) ++ words_drawn (get_or draws i 0 ∷ [])
drawn_more draws i h = rw (add-one, take-suc draws i 0, filter_map-append)

pub laid_none : (old : List ℕ) (from : ℕ) → Laid old from [] old from
laid_none old from =
    let none = take-nil {A = ℕ} (length old - from) in
    record { words = rw none (sym (patched_none old from)); next = rw none (omega arith) }

-- a draw that is not taken, one that finds no room, and one that is taken and finds room
pub laid_left : (old : List ℕ) (from d : ℕ) → drawn d ≡ None → Laid old from (words_drawn (d ∷ [])) old from
laid_left old from d e = rw e (laid_none old from)

pub laid_full : (old : List ℕ) (from : ℕ) (given : List ℕ) → from ≡ length old → Laid old from given old from
laid_full old from given e =
    let room : length old - from ≡ 0 = omega arith in
    record { words = rw room (sym (patched_none old from)); next = rw room (omega arith) }

laid_one : (old : List ℕ) (from w : ℕ) → from < length old → Laid old from (w ∷ []) (set old from w) (from + 1)
laid_one old from w h =
    let one : take (length old - from) (w ∷ []) ≡ w ∷ [] = take_all (length old - from) (w ∷ []) (omega arith) in
    record { words = rw one (set_split old from w h ∙ rw (add-one from)); next = rw one }

pub laid_taken : (old : List ℕ) (from d w : ℕ) → drawn d ≡ Some w → from < length old → Laid old from (words_drawn (d ∷ [])) (set old from w) (from + 1)
laid_taken old from d w e h = rw e (laid_one old from w h)

-- what is laid right behind is laid over in one
take-append : (n : ℕ) (xs ys : List ℕ) → take n (xs ++ ys) ≡ take n xs ++ take (n - length xs) ys
take-append n [] ys = rw (take-nil n, sub-zero n)
take-append zero (x ∷ xs) ys = let none : 0 - suc (length xs) ≡ 0 = omega arith in rw none
take-append (suc n) (x ∷ xs) ys = rw (suc-sub-suc, take-append n xs ys)

module _ {old mid new xs ys : List ℕ} {from at after : ℕ} where
  pub laid_more : from ≤ length old → Laid old from xs mid at → Laid mid at ys new after → Laid old from (xs ++ ys) new after
  laid_more h first second =
      let room = length old - from in
      let some = take room xs in
      let rest = take (length mid - at) ys in
      let size = length-take room xs in
      let same : length mid ≡ length old = ap length first.words ∙ length-patched old from some (omega arith) in
      let left : room - length xs ≡ length mid - at = omega arith in
      let all : take room (xs ++ ys) ≡ some ++ rest = take-append room xs ys ∙ rw left in
      let over = ap₂ (λ (m : List ℕ) (a : ℕ). patched m a rest) first.words first.next in
      record {
        words = rw all (second.words ∙ over ∙ patched_more old from some rest (omega arith));
        next = rw (all, length-append some rest) (omega arith);
      }
