-- The sets of a rising list stand in dictionary order, and none is left out.
-- Assumes nothing.
use Rattle.std.specs.Prelude.{ℕ, zero, suc, ◌+◌, ◌<◌, refl, Bool, true, false, cond, List, [], ◌∷◌, ◌++◌, map}
use Rattle.std.proofs.Common.{ap, inl, inr, zero-add, one-add, arith}
use Rattle.lists.specs.Chosen.{chosen, chosen_in}
use Rattle.lists.specs.Count.{bit, count}
use Rattle.lists.specs.From.{from, from_in}
use Rattle.lists.specs.Member.{In}
use Rattle.trials.specs.Each.{Each, each_all, each_more, each_append, each_map}
use Rattle.trials.specs.Sets.{sets}
use Rattle.trials.specs.SetsLaws.{SetOf}
use Rattle.trials.proofs.SetsLaws.{sets_of}
use Rattle.trials.specs.Dictionary.{lower, Rising, Before, alike, Dictionary, OneOf}

two_parts : (zs ws : List (List ℕ)) → Dictionary zs → Dictionary ws → Each (λ z. Each (Before z) ws) zs → Dictionary (zs ++ ws)
two_parts [] ws d d' e = d'
two_parts (z ∷ zs) ws d d' e = (each_append (Before z) zs ws d.0 e.0, two_parts zs ws d.1 d' e.1)

with_first : (x : ℕ) (zs : List (List ℕ)) → Dictionary zs → Dictionary (map (λ z. x ∷ z) zs)
with_first x [] d = tt
with_first x (z ∷ zs) d = (each_map (Before (x ∷ z)) (λ w. x ∷ w) zs (each_more (λ w b. alike b) zs d.0), with_first x zs d.1)

lower_first : {k : ℕ} (x : ℕ) (xs z w : List ℕ) → ((y : ℕ) → In y xs → x < y) → SetOf (suc k) xs w → Before (x ∷ z) w
lower_first x xs z [] r s = absurd (omega (arith, s.size))
lower_first x xs z (y ∷ w) r s = lower (r y (s.within y (inl refl)))

pub sets_dictionary : (xs : List ℕ) (k : ℕ) → Rising xs → Dictionary (sets xs k)
unfolding sets
sets_dictionary [] zero r = (tt, tt)
sets_dictionary [] (suc k) r = tt
sets_dictionary (x ∷ xs) zero r = (tt, tt)
sets_dictionary (x ∷ xs) (suc k) r =
    two_parts (map (λ z. x ∷ z) (sets xs k)) (sets xs (suc k)) (with_first x (sets xs k) (sets_dictionary xs k r.1)) (sets_dictionary xs (suc k) r.1)
    (each_map (λ z. Each (Before z) (sets xs (suc k))) (λ z. x ∷ z) (sets xs k)
    (each_all (λ z. each_more (λ w. lower_first x xs z w r.0) (sets xs (suc k)) (sets_of xs (suc k))) (sets xs k)))

rising_from : (a k : ℕ) → Rising (from a k)
unfolding from
rising_from a zero = tt
rising_from a (suc k) = ((λ y m. let b = from_in (suc a) k y m in omega arith), rising_from (suc a) k)

rising_chosen : (f : ℕ → Bool) (xs : List ℕ) → Rising xs → Rising (chosen f xs)
unfolding chosen
rising_chosen f [] r = tt
rising_chosen f (x ∷ xs) r = step (f x) (rising_chosen f xs r.1)
  where
    step : (b : Bool) → Rising (chosen f xs) → Rising (cond b (x ∷ chosen f xs) (chosen f xs))
    step true h = ((λ y m. r.0 y (chosen_in f xs y m)), h)
    step false h = h

-- "in dictionary order of rising keeper numbers": the sets of keepers that pass a test
pub keepers_dictionary : (f : ℕ → Bool) (n k : ℕ) → Dictionary (sets (chosen f (from 1 n)) k)
keepers_dictionary f n k = sets_dictionary (chosen f (from 1 n)) k (rising_chosen f (from 1 n) (rising_from 1 n))

in_front : (z : List ℕ) (zs ws : List (List ℕ)) → OneOf z zs → OneOf z (zs ++ ws)
in_front z [] ws m = absurd m
in_front z (w ∷ zs) ws (inl e) = inl e
in_front z (w ∷ zs) ws (inr m) = inr (in_front z zs ws m)

behind : (z : List ℕ) (zs ws : List (List ℕ)) → OneOf z ws → OneOf z (zs ++ ws)
behind z [] ws m = m
behind z (w ∷ zs) ws m = inr (behind z zs ws m)

of_map : (x : ℕ) (z : List ℕ) (zs : List (List ℕ)) → OneOf z zs → OneOf (x ∷ z) (map (λ w. x ∷ w) zs)
of_map x z [] m = absurd m
of_map x z (w ∷ zs) (inl e) = inl (ap {B = List ℕ} (λ v. x ∷ v) e)
of_map x z (w ∷ zs) (inr m) = inr (of_map x z zs m)

-- a set without the first number is a set with it at hand
longer : (x : ℕ) (xs : List ℕ) (k : ℕ) (z : List ℕ) → OneOf z (sets xs k) → OneOf z (sets (x ∷ xs) k)
unfolding sets
longer x [] zero z m = m
longer x (y ∷ ys) zero z m = m
longer x xs (suc k) z m = behind z (map (λ w. x ∷ w) (sets xs k)) (sets xs (suc k)) m

-- whatever test so many numbers of the list pass, those that do are one of the sets
pub sets_all : (f : ℕ → Bool) (xs : List ℕ) → OneOf (chosen f xs) (sets xs (count f xs))
unfolding sets chosen count
sets_all f [] = inl refl
sets_all f (x ∷ xs) = step (f x) (sets_all f xs)
  where
    step : (b : Bool) → OneOf (chosen f xs) (sets xs (count f xs)) → OneOf (cond b (x ∷ chosen f xs) (chosen f xs)) (sets (x ∷ xs) (bit b + count f xs))
    step true m = rw one-add (in_front (x ∷ chosen f xs) (map (λ z. x ∷ z) (sets xs (count f xs))) (sets xs (suc (count f xs))) (of_map x (chosen f xs) (sets xs (count f xs)) m))
    step false m = rw zero-add (longer x xs (count f xs) (chosen f xs) m)
