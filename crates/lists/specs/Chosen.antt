-- The numbers of a list that pass a test, in their order.
-- Assumes nothing.
use Rattle.std.specs.Prelude.{ℕ, ◌+◌, ◌≡◌, refl, Bool, true, false, cond, ◌&&◌, List, [], ◌∷◌, ◌++◌, length, get_or}
use Rattle.std.proofs.Common.{sym, ap, ◌∙◌, inl, inr, arith}
use Rattle.lists.specs.Below.{Below}
use Rattle.lists.specs.Count.{bit, count, both}
use Rattle.lists.specs.Different.{Different}
use Rattle.lists.specs.Folded.{folded_same}
use Rattle.lists.specs.Member.{In, in_get_d, below_in}

unfoldable pub chosen : (ℕ → Bool) → List ℕ → List ℕ
chosen f [] = []
chosen f (x ∷ xs) = cond (f x) (x ∷ chosen f xs) (chosen f xs)

pub length-chosen : (f : ℕ → Bool) (xs : List ℕ) → length (chosen f xs) ≡ count f xs
unfolding chosen count
length-chosen f [] = refl
length-chosen f (x ∷ xs) = step (f x) (length-chosen f xs)
  where
    step : (b : Bool) → length (chosen f xs) ≡ count f xs → length (cond b (x ∷ chosen f xs) (chosen f xs)) ≡ bit b + count f xs
    step true h = omega arith
    step false h = omega arith

-- to be chosen is to stand in the list and to pass
pub in_chosen : (f : ℕ → Bool) (xs : List ℕ) (y : ℕ) → In y xs → f y ≡ true → In y (chosen f xs)
unfolding chosen
in_chosen f [] y m h = m
in_chosen f (x ∷ xs) y (inl e) h = rw (ap f (sym e) ∙ h) (inl e)
in_chosen f (x ∷ xs) y (inr m) h = step (f x) (in_chosen f xs y m h)
  where
    step : (b : Bool) → In y (chosen f xs) → In y (cond b (x ∷ chosen f xs) (chosen f xs))
    step true k = inr k
    step false k = k

pub chosen_in : (f : ℕ → Bool) (xs : List ℕ) (y : ℕ) → In y (chosen f xs) → In y xs
unfolding chosen
chosen_in f [] y m = m
chosen_in f (x ∷ xs) y m = step (f x) (chosen_in f xs y) m
  where
    step : (b : Bool) → (In y (chosen f xs) → In y xs) → In y (cond b (x ∷ chosen f xs) (chosen f xs)) → In y (x ∷ xs)
    step true h (inl e) = inl e
    step true h (inr k) = inr (h k)
    step false h k = inr (h k)

pub chosen_passes : (f : ℕ → Bool) (xs : List ℕ) (y : ℕ) → In y (chosen f xs) → f y ≡ true
unfolding chosen
chosen_passes f [] y m = absurd m
chosen_passes f (x ∷ xs) y m = step (f x) refl (chosen_passes f xs y) m
  where
    step : (b : Bool) → f x ≡ b → (In y (chosen f xs) → f y ≡ true) → In y (cond b (x ∷ chosen f xs) (chosen f xs)) → f y ≡ true
    step true p h (inl e) = ap f e ∙ p
    step true p h (inr k) = h k
    step false p h k = h k

pub different_chosen : (f : ℕ → Bool) (xs : List ℕ) → Different xs → Different (chosen f xs)
unfolding chosen
different_chosen f [] d = d
different_chosen f (x ∷ xs) d = step (f x) (different_chosen f xs d.1)
  where
    step : (b : Bool) → Different (chosen f xs) → Different (cond b (x ∷ chosen f xs) (chosen f xs))
    step true k = ((λ m. d.0 (chosen_in f xs x m)), k)
    step false k = k

pub below_chosen : (q : ℕ) (f : ℕ → Bool) (xs : List ℕ) → Below q xs → Below q (chosen f xs)
below_chosen q f xs b i h = below_in q xs b (get_or (chosen f xs) i 0) (chosen_in f xs _ (in_get_d (chosen f xs) i h))

pub chosen-append : (f : ℕ → Bool) (xs ys : List ℕ) → chosen f (xs ++ ys) ≡ chosen f xs ++ chosen f ys
unfolding chosen
chosen-append f [] ys = refl
chosen-append f (x ∷ xs) ys = ap (λ (r : List ℕ). cond (f x) (x ∷ r) r) (chosen-append f xs ys) ∙ step (f x)
  where
    step : (b : Bool) → cond b (x ∷ (chosen f xs ++ chosen f ys)) (chosen f xs ++ chosen f ys) ≡ cond b (x ∷ chosen f xs) (chosen f xs) ++ chosen f ys
    step true = refl
    step false = refl

-- where none passes, none is chosen
pub chosen_none : (f : ℕ → Bool) (xs : List ℕ) → ((y : ℕ) → In y xs → f y ≡ false) → chosen f xs ≡ []
unfolding chosen
chosen_none f [] h = refl
chosen_none f (x ∷ xs) h = rw (h x (inl refl), chosen_none f xs (λ y m. h y (inr m)))

-- tests that agree on the list choose the same
pub chosen_same : (f g : ℕ → Bool) (xs : List ℕ) → ((x : ℕ) → In x xs → f x ≡ g x) → chosen f xs ≡ chosen g xs
unfolding chosen
chosen_same = folded_same chosen (λ x b r. cond b (x ∷ r) r) (λ f g. refl) (λ f x xs. refl)

-- to choose among the chosen is to choose those that pass both tests
pub chosen-chosen : (f g : ℕ → Bool) (xs : List ℕ) → chosen g (chosen f xs) ≡ chosen (both f g) xs
unfolding chosen
chosen-chosen f g [] = refl
chosen-chosen f g (x ∷ xs) = step (f x) (chosen-chosen f g xs)
  where
    step : (b : Bool) → chosen g (chosen f xs) ≡ chosen (both f g) xs
        → chosen g (cond b (x ∷ chosen f xs) (chosen f xs)) ≡ cond (b && g x) (x ∷ chosen (both f g) xs) (chosen (both f g) xs)
    step true h = rw h
    step false h = h

-- to count among the chosen is to count those that pass both tests
pub count-chosen : (f g : ℕ → Bool) (xs : List ℕ) → count g (chosen f xs) ≡ count (both f g) xs
unfolding chosen count
count-chosen f g [] = refl
count-chosen f g (x ∷ xs) = step (f x) (count-chosen f g xs)
  where
    step : (b : Bool) → count g (chosen f xs) ≡ count (both f g) xs → count g (cond b (x ∷ chosen f xs) (chosen f xs)) ≡ bit (b && g x) + count (both f g) xs
    step true h = omega arith
    step false h = omega arith
