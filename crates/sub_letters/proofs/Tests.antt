-- The tests of the definitions go from place to place; those of a whole list say the same.
-- Assumes nothing.
use Rattle.std.specs.Prelude.{ℕ, ◌≤◌, ◌≡◌, refl, Bool, true, false, not, ◌&&◌, ◌||◌, List, [], ◌∷◌, eqb, length, get_or, take}
use Rattle.std.specs.List.{list_all, list_any, range_with_len}
use Rattle.std.proofs.Common.{sym, ap, ◌∙◌, zero-add, get_or-take, length-take-le, arith}
use Rattle.std.proofs.lemmas.List.FromFn.{length-range_with_len, get_or-range_with_len}
use Rattle.std.proofs.lemmas.List.{take_all}
use Rattle.std.proofs.lemmas.List.Recursion.{and_at, and_from_places}
use Rattle.lists.specs.AllTo.{all_to}
use Rattle.lists.specs.AllToLaws.{all_to_holds, all_to-at, all_to_same}
use Rattle.header.specs.declared.order.Order.{Order}
use Rattle.header.specs.Order.{lawful_keeper}
use Rattle.sub_letters.specs.Keepers.{all_keepers, none_is, each_in}

-- two tests that pass together are one
together : (a b : Bool) → (a ≡ true → b ≡ true) → (b ≡ true → a ≡ true) → a ≡ b
together true b there back = sym (there refl)
together false true there back = back refl
together false false there back = refl

pub every_place : (test : ℕ → Bool) (xs : List ℕ) → list_all test xs ≡ all_to (λ i. test (get_or xs i 0)) (length xs)
every_place test xs =
    together _ _
    (λ e. all_to_holds (λ i. test (get_or xs i 0)) (length xs) (λ i h. and_at (list_all test) test refl (λ _ _. refl) xs i 0 h e))
    (λ e. and_from_places (list_all test) test refl (λ _ _. refl) xs 0 (all_to-at (λ i. test (get_or xs i 0)) (length xs) e))

none_any : (test : ℕ → Bool) (xs : List ℕ) → not (list_any test xs) ≡ list_all (λ x. not (test x)) xs
none_any test [] = refl
none_any test (x ∷ xs) = step (test x) (list_any test xs) (list_all (λ y. not (test y)) xs) (none_any test xs)
  where
    step : (b c d : Bool) → not c ≡ d → not (b || c) ≡ (not b && d)
    step true c d e = refl
    step false c d e = e

-- none of the first k is x
pub none_before : (x : ℕ) (xs : List ℕ) (k : ℕ) → k ≤ length xs → not (list_any (λ y. eqb y x) (take k xs)) ≡ none_is x xs k
unfolding none_is
none_before x xs k most =
    none_any (λ y. eqb y x) (take k xs)
    ∙ (every_place (λ y. not (eqb y x)) (take k xs)
    ∙ rw (length-take-le k xs most) (all_to_same _ _ k (λ i h. rw (get_or-take k xs i 0 h))))

-- each is among others
pub each_among : (xs ys : List ℕ) → list_all (λ x. list_any (λ y. eqb y x) ys) xs ≡ each_in xs ys
unfolding each_in
each_among xs ys = every_place _ xs ∙ all_to_same _ _ (length xs) (λ i h. among (get_or xs i 0))
  where
    not-not : (b c : Bool) → not b ≡ c → b ≡ not c
    not-not b c e = step b e
      where
        step : (b : Bool) → not b ≡ c → b ≡ not c
        step true e = ap not e
        step false e = ap not e

    among : (x : ℕ) → list_any (λ y. eqb y x) ys ≡ not (none_is x ys (length ys))
    among x = not-not _ _ (rw (take_all (length ys) ys (omega arith)) at (none_before x ys (length ys) (omega arith)))

pub all_lawful : (order : Order) (keepers : List ℕ) → list_all (lawful_keeper order) keepers ≡ all_keepers order keepers
unfolding all_keepers
all_lawful order keepers = every_place (lawful_keeper order) keepers

-- the same of the numbers from 0 on
pub every_number : (test : ℕ → Bool) (n : ℕ) → list_all test (range_with_len 0 n) ≡ all_to test n
every_number test n =
    every_place test (range_with_len 0 n)
    ∙ rw (length-range_with_len 0 n) (all_to_same _ _ n (λ i h. ap test (get_or-range_with_len 0 n i 0 h ∙ zero-add i)))
