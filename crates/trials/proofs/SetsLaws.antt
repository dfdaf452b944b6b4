-- What each of the sets is: so many different numbers of the list.
-- Assumes nothing.
use Rattle.std.specs.Prelude.{ℕ, zero, suc, refl, List, [], ◌∷◌, map}
use Rattle.std.proofs.Common.{ap, inl, inr}
use Rattle.lists.specs.Member.{In}
use Rattle.trials.specs.Each.{Each, each_more, each_append, each_map}
use Rattle.trials.specs.Sets.{sets}
use Rattle.trials.specs.SetsLaws.{SetOf}

empty_of : (xs : List ℕ) → SetOf zero xs []
empty_of xs = record { size = refl; within = λ x m. absurd m; different = λ d. tt }

-- with the first number, and without it
with_first : {k : ℕ} (x : ℕ) (xs z : List ℕ) → SetOf k xs z → SetOf (suc k) (x ∷ xs) (x ∷ z)
with_first {k} x xs z s = record { size = ap suc s.size; within = within; different = λ d. ((λ m. d.0 (s.within x m)), s.different d.1) }
  where
    within : (y : ℕ) → In y (x ∷ z) → In y (x ∷ xs)
    within y (inl e) = inl e
    within y (inr m) = inr (s.within y m)

without_first : {k : ℕ} (x : ℕ) (xs z : List ℕ) → SetOf k xs z → SetOf k (x ∷ xs) z
without_first x xs z s = record { size = s.size; within = λ y m. inr (s.within y m); different = λ d. s.different d.1 }

pub sets_of : (xs : List ℕ) (k : ℕ) → Each (SetOf k xs) (sets xs k)
unfolding sets
sets_of [] zero = (empty_of [], tt)
sets_of [] (suc k) = tt
sets_of (x ∷ xs) zero = (empty_of (x ∷ xs), tt)
sets_of (x ∷ xs) (suc k) =
    each_append (SetOf (suc k) (x ∷ xs)) (map (λ z. x ∷ z) (sets xs k)) (sets xs (suc k))
    (each_map (SetOf (suc k) (x ∷ xs)) (λ z. x ∷ z) (sets xs k) (each_more (with_first x xs) (sets xs k) (sets_of xs k)))
    (each_more (without_first x xs) (sets xs (suc k)) (sets_of xs (suc k)))
