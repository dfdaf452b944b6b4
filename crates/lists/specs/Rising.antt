-- Counting and choosing among 1..n, one number more at a time.
-- Assumes nothing.
use Rattle.std.specs.Prelude.{ℕ, zero, suc, ◌+◌, ◌-◌, ◌≤◌, ◌<◌, ◌≡◌, refl, Bool, true, false, cond, List, [], ◌∷◌, ◌++◌, length, get_or, take}
use Rattle.std.proofs.Common.{sym, ap, ◌∙◌, ⊎_elim, eq-or-lt_of_le, not-suc-le-zero, add-one, one-add, arith, length-append, take_all}
use Rattle.std.proofs.Math.ListN.{get_or-append}
use Rattle.std.proofs.lemmas.List.{take-append-le, get_or_at}
use Rattle.lists.specs.Chosen.{chosen, chosen-append, in_chosen}
use Rattle.lists.specs.Count.{bit, count, count-append, count_mono}
use Rattle.lists.specs.From.{from, from_suc, from-add, in_from}
use Rattle.lists.specs.Member.{In}

pub count-suc : (f : ℕ → Bool) (k : ℕ) → count f (from 1 (suc k)) ≡ bit (f (suc k)) + count f (from 1 k)
unfolding count
count-suc f k = rw (from_suc 1 k, count-append, one-add) (omega arith)

chosen-suc : (f : ℕ → Bool) (k : ℕ) → chosen f (from 1 (suc k)) ≡ chosen f (from 1 k) ++ cond (f (suc k)) (suc k ∷ []) []
unfolding chosen
chosen-suc f k = rw (from_suc 1 k, chosen-append, one-add)

-- the same of a loop's next number, whose test is known
pub count_next : (f : ℕ → Bool) (k : ℕ) (b : Bool) → f (k + 1) ≡ b → count f (from 1 (k + 1)) ≡ bit b + count f (from 1 k)
count_next f k b = rw (add-one k) (λ e. count-suc f k ∙ ap (λ (c : Bool). bit c + count f (from 1 k)) e)

pub chosen_next : (f : ℕ → Bool) (k : ℕ) (b : Bool) → f (k + 1) ≡ b → chosen f (from 1 (k + 1)) ≡ chosen f (from 1 k) ++ cond b ((k + 1) ∷ []) []
chosen_next f k b = rw (add-one k) (λ e. chosen-suc f k ∙ ap (λ (c : Bool). chosen f (from 1 k) ++ cond c (suc k ∷ []) []) e)

-- 1..n is 1..k, and the rest
from_split : (k n : ℕ) → k ≤ n → from 1 n ≡ from 1 k ++ from (1 + k) (n - k)
from_split k n l = let e : n ≡ k + (n - k) = omega arith in ap (from 1) e ∙ from-add 1 k (n - k)

pub chosen_split : (f : ℕ → Bool) (k n : ℕ) → k ≤ n → chosen f (from 1 n) ≡ chosen f (from 1 k) ++ chosen f (from (1 + k) (n - k))
chosen_split f k n l = ap (chosen f) (from_split k n l) ∙ chosen-append f (from 1 k) (from (1 + k) (n - k))

-- a test that passes only where another does falls behind it
pub count_behind : (f g : ℕ → Bool) (k n : ℕ) → k ≤ n → ((x : ℕ) → f x ≡ true → g x ≡ true)
    → count f (from 1 n) + count g (from 1 k) ≤ count g (from 1 n) + count f (from 1 k)
count_behind f g k n l h =
    rw (from_split k n l, count-append f, count-append g)
    (omega (arith, count_mono f g (from (1 + k) (n - k)) (λ x m. h x)))

module _ (f : ℕ → Bool) where
  -- what is chosen up to the m-th of a list is the first m + 1 of it
  abbrev Reached : List ℕ → ℕ → Type 0
  Reached c m = chosen f (from 1 (get_or c m 0)) ≡ take (suc m) c

  reached_more : (c ys : List ℕ) (m : ℕ) → m < length c → Reached c m → Reached (c ++ ys) m
  reached_more c ys m h e = rw (get_or-append c ys 0 m h, take-append-le (suc m) c ys h) e

  reached_suc : (n : ℕ) → ((m : ℕ) → m < length (chosen f (from 1 n)) → Reached (chosen f (from 1 n)) m)
      → (b : Bool) → f (suc n) ≡ b → (m : ℕ) → m < length (chosen f (from 1 n) ++ cond b (suc n ∷ []) []) → Reached (chosen f (from 1 n) ++ cond b (suc n ∷ []) []) m
  reached_suc n ih true e m h = ⊎_elim last (λ l. reached_more c (suc n ∷ []) m l (ih m l)) (eq-or-lt_of_le {n = m} {m = length c} (omega (arith, length-append c (suc n ∷ []))))
    where
      c : List ℕ
      c = chosen f (from 1 n)

      last : m ≡ length c → Reached (c ++ (suc n ∷ [])) m
      last s =
          rw (get_or_at c (suc n) [] 0 m (sym s), take_all (suc m) (c ++ (suc n ∷ [])) (omega (arith, length-append c (suc n ∷ []))))
          (chosen-suc f n ∙ ap (λ (b : Bool). c ++ cond b (suc n ∷ []) []) e)
  reached_suc n ih false e m h = let l : m < length (chosen f (from 1 n)) = omega (arith, length-append (chosen f (from 1 n)) []) in reached_more (chosen f (from 1 n)) [] m l (ih m l)

-- the first of the chosen are all of the chosen up to the last of these
chosen_up_to : (f : ℕ → Bool) (n m : ℕ) → m < length (chosen f (from 1 n))
    → chosen f (from 1 (get_or (chosen f (from 1 n)) m 0)) ≡ take (suc m) (chosen f (from 1 n))
unfolding from chosen
chosen_up_to f zero m h = absurd (not-suc-le-zero h)
chosen_up_to f (suc n) m h = rw (chosen-suc f n) (reached_suc f n (chosen_up_to f n) (f (suc n)) refl m (rw (chosen-suc f n) at h))

pub in_chosen_first : (f : ℕ → Bool) (n m x : ℕ) → m < length (chosen f (from 1 n)) → 1 ≤ x → x ≤ get_or (chosen f (from 1 n)) m 0 → f x ≡ true
    → In x (take (suc m) (chosen f (from 1 n)))
in_chosen_first f n m x h l g e = rw (chosen_up_to f n m h) at (in_chosen f (from 1 (get_or (chosen f (from 1 n)) m 0)) x (in_from 1 _ x l (omega arith)) e)
