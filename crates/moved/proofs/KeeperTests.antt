-- The tests of a weighing on lists of old keepers pass where the lists are as they should be.
-- Assumes nothing.
use Rattle.std.specs.Prelude.{ℕ, zero, suc, ◌<◌, ◌≡◌, refl, Bool, true, false, not, List, [], ◌∷◌, eqb, length, get_or}
use Rattle.std.proofs.Math.Path.{subst⁻¹}
use Rattle.std.proofs.Common.{le_of_suc-le-suc, not-suc-le-zero, ne_eqb}
use Rattle.std.proofs.lemmas.Bool.{eqb-false, not-true}
use Rattle.lists.specs.AllToLaws.{all_to_holds, all_to-at}
use Rattle.lists.specs.Different.{Different}
use Rattle.lists.specs.Member.{In, in_get_d, in_every}
use Rattle.header.specs.declared.order.Order.{Order}
use Rattle.header.specs.Order.{lawful_keeper}
use Rattle.sub_letters.specs.Keepers.{all_keepers, none_is, differ, each_in}

pub all_keepers_lem : (order : Order) (xs : List ℕ) → ((x : ℕ) → In x xs → lawful_keeper order x ≡ true) → all_keepers order xs ≡ true
unfolding all_keepers
all_keepers_lem order xs h = all_to_holds (λ i. lawful_keeper order (get_or xs i 0)) (length xs) (λ i l. h (get_or xs i 0) (in_get_d xs i l))

-- different numbers differ by their places
apart : (xs : List ℕ) → Different xs → (j : ℕ) → j < length xs → (i : ℕ) → i < j → get_or xs i 0 ≡ get_or xs j 0 → ⊥
apart [] d j h i l e = not-suc-le-zero h
apart (x ∷ xs) d zero h i l e = not-suc-le-zero l
apart (x ∷ xs) d (suc j) h zero l e = d.0 (subst⁻¹ (λ (z : ℕ). In z xs) e (in_get_d xs j (le_of_suc-le-suc h)))
apart (x ∷ xs) d (suc j) h (suc i) l e = apart xs d.1 j (le_of_suc-le-suc h) i (le_of_suc-le-suc l) e

pub different_differ : (xs : List ℕ) → Different xs → differ xs ≡ true
unfolding differ none_is
different_differ xs d =
    all_to_holds (λ j. none_is (get_or xs j 0) xs j) (length xs)
    (λ j h. all_to_holds (λ i. not (eqb (get_or xs i 0) (get_or xs j 0))) j (λ i l. rw (ne_eqb (get_or xs i 0) (get_or xs j 0) (apart xs d j h i l))))

none_absent : (x : ℕ) (ys : List ℕ) → none_is x ys (length ys) ≡ true → In x ys → ⊥
unfolding none_is
none_absent x ys e m =
    in_every (λ z. z ≡ x → ⊥) ys
    (λ i l same. eqb-false (get_or ys i 0) x (not-true (eqb (get_or ys i 0) x) (all_to-at (λ j. not (eqb (get_or ys j 0) x)) (length ys) e i l)) same) x m refl

untrue : (t : Bool) → (t ≡ true → ⊥) → not t ≡ true
untrue true n = absurd (n refl)
untrue false n = refl

pub each_in_lem : (xs ys : List ℕ) → ((x : ℕ) → In x xs → In x ys) → each_in xs ys ≡ true
unfolding each_in
each_in_lem xs ys h =
    all_to_holds (λ i. not (none_is (get_or xs i 0) ys (length ys))) (length xs)
    (λ i l. untrue (none_is (get_or xs i 0) ys (length ys)) (λ e. none_absent (get_or xs i 0) ys e (h (get_or xs i 0) (in_get_d xs i l))))
