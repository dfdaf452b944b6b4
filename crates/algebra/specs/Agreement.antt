-- Only one agreement: polynomials that each match as many of m values as are needed are the same.
-- Assumes nothing.
use Rattle.std.specs.Prelude.{ℕ, suc, ◌+◌, ◌-◌, ◌≤◌, max, ◌≡◌, Bool, true, List, length}
use Rattle.std.proofs.Common.{sym, ◌∙◌, arith}
use Rattle.std.proofs.Math.Bool.{and-eq-true_iff}
use Rattle.lists.specs.Chosen.{chosen, length-chosen, chosen_in, chosen_passes}
use Rattle.lists.specs.Count.{count, both, count-both}
use Rattle.lists.specs.Member.{In}
use Rattle.algebra.specs.Field.{Ops, IsField}
use Rattle.algebra.specs.Points.{Points, points_chosen}
use Rattle.algebra.specs.Poly.{eval, Degree}
use Rattle.algebra.specs.Unique.{unique_degree}

-- "With m usable, need is the larger of m-f and t+f+1."
abbrev pub need : ℕ → ℕ → ℕ → ℕ
need m t f = max (m - f) (t + f + 1)

-- p has the value y at each of the points xs that the test a picks
abbrev pub Agrees : Ops → List ℕ → (ℕ → ℕ) → (ℕ → Bool) → List ℕ → Type 0
Agrees O xs y a p = (x : ℕ) → In x xs → a x ≡ true → eval O p x ≡ y x

module _ (t f : ℕ) (xs : List ℕ) (a b : ℕ → Bool) where
  shared_need : need (length xs) t f ≤ count a xs → need (length xs) t f ≤ count b xs → suc t ≤ count (both a b) xs
  shared_need ha hb = omega (arith, count-both a b xs)

module _ {O : Ops} (F : IsField O) (t : ℕ) (xs : List ℕ) (y : ℕ → ℕ) (a b : ℕ → Bool) (p p' : List ℕ)
    (P : Points O.q xs) (d : Degree O t p) (d' : Degree O t p') (A : Agrees O xs y a p) (B : Agrees O xs y b p') where
  pub agreement_shared : suc t ≤ count (both a b) xs → p ≡ p'
  agreement_shared h = unique_degree F t (chosen (both a b) xs) p p' (points_chosen (both a b) P) (omega (arith, length-chosen (both a b) xs)) d d' same
    where
      same : (x : ℕ) → In x (chosen (both a b) xs) → eval O p x ≡ eval O p' x
      same x m =
          let i = chosen_in (both a b) xs x m in
          let k = (and-eq-true_iff (a x) (b x)).0 (chosen_passes (both a b) xs x m) in
          A x i k.0 ∙ sym (B x i k.1)

  -- "Any polynomials that reach need are the only ones."
  pub agreement : (f : ℕ) → need (length xs) t f ≤ count a xs → need (length xs) t f ≤ count b xs → p ≡ p'
  agreement f ha hb = agreement_shared (shared_need t f xs a b ha hb)
