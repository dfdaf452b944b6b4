-- Some keepers' polynomials reach need exactly where each of these keepers is of the set that agrees.
-- Assumes nothing.
use Rattle.std.specs.Prelude.{ℕ, zero, suc, ◌+◌, ◌<◌, ◌≡◌, Bool, true, List, [], map, length, get_or}
use Rattle.std.proofs.Common.{sym, ◌∙◌, zero-add, add-zero, suc-add, add-suc, le_of_suc-le-suc, not-suc-le-zero, arith, ext_get_or}
use Rattle.std.proofs.lemmas.List.{length-map}
use borrow.Author.Tests.{leb-true, le-leb}
use Rattle.lists.specs.From.{from, length_from}
use Rattle.lists.specs.Member.{In}
use Rattle.algebra.specs.Field.{Ops, IsField}
use Rattle.algebra.specs.Interpolate.{interpolate, interpolate_same, interpolate_degree, eval-interpolate}
use Rattle.algebra.specs.Points.{Points}
use Rattle.algebra.specs.Poly.{Degree}
use Rattle.algebra.specs.Unique.{unique_degree}
use Rattle.agree.specs.Agreement.{Polynomials, matches, agreeing, polynomials_of, reaching, Reaches}
use Rattle.agree.specs.AgreementLaws.{matches-at, matches_holds, agreeing-matches, agreeing_holds}
use Rattle.agree.specs.ReachesLaws.{reaches_only}

-- a list of lists by a rule, read at a place
get_d_by : (rule : ℕ → List ℕ) (a l i : ℕ) → i < l → get_or (map rule (from a l)) i [] ≡ rule (a + i)
unfolding from
get_d_by rule a zero i h = absurd (not-suc-le-zero h)
get_d_by rule a (suc l) zero h = rw add-zero
get_d_by rule a (suc l) (suc i) h = rw (add-suc, ← suc-add a i) (get_d_by rule (suc a) l i (le_of_suc-le-suc h))

module _ (O : Ops) (word : ℕ → ℕ → ℕ) (l : ℕ) (xs : List ℕ) where
  length_of_lem : length (polynomials_of O word l xs) ≡ l
  length_of_lem = length-map (from 0 l) (λ i. interpolate O xs (λ x. word x i)) ∙ length_from 0 l

  polynomial_at : (i : ℕ) → i < l → get_or (polynomials_of O word l xs) i [] ≡ interpolate O xs (λ x. word x i)
  polynomial_at i h = rw zero-add at (get_d_by (λ i. interpolate O xs (λ x. word x i)) 0 l i h)

-- they are made of those keepers' words alone
pub polynomials_same : (O : Ops) (l : ℕ) (word word' : ℕ → ℕ → ℕ) (xs : List ℕ) → ((x : ℕ) → In x xs → (i : ℕ) → i < l → word x i ≡ word' x i)
    → polynomials_of O word l xs ≡ polynomials_of O word' l xs
polynomials_same O l word word' xs h =
    ext_get_or [] (polynomials_of O word l xs) (polynomials_of O word' l xs) (length_of_lem O word l xs ∙ sym (length_of_lem O word' l xs))
    (λ i k. let within : i < l = omega (arith, length_of_lem O word l xs) in
    polynomial_at O word l xs i within
    ∙ interpolate_same O xs (λ x. word x i) (λ x. word' x i) (λ x m. h x m i within)
    ∙ sym (polynomial_at O word' l xs i within))

-- keepers whose letters have polynomials: t + 1 different ones, with field words
pub record Keeping (O : Ops) (t l : ℕ) (word : ℕ → ℕ → ℕ) (xs : List ℕ) : Type 0 where
  pub many : length xs ≡ suc t
  pub points : Points O.q xs
  pub words : (x : ℕ) → In x xs → (i : ℕ) → i < l → word x i < O.q

module _ {O : Ops} (F : IsField O) {t l : ℕ} {word : ℕ → ℕ → ℕ} {xs : List ℕ} (K : Keeping O t l word xs) where
  degree_of : (i : ℕ) → i < l → Degree O t (interpolate O xs (λ x. word x i))
  degree_of i h = interpolate_degree F t xs (λ x. word x i) K.many (λ x m. K.words x m i h)

  -- some keepers' polynomials are of degree at most t
  pub polynomials_of_lem : Polynomials O t l (polynomials_of O word l xs)
  polynomials_of_lem = record { size = length_of_lem O word l xs; degree = λ i h. rw (polynomial_at O word l xs i h) (degree_of i h) }

  -- they match their keepers' letters
  pub polynomials_match : (x : ℕ) → In x xs → matches O (polynomials_of O word l xs) l word x ≡ true
  polynomials_match x m =
      matches_holds O (polynomials_of O word l xs) l word x
      (λ i h. rw (polynomial_at O word l xs i h) (eval-interpolate F xs (λ y. word y i) K.points (λ y k. K.words y k i h) x m))

  -- and no others do
  pub polynomials_only : (ps : List (List ℕ)) → Polynomials O t l ps → ((x : ℕ) → In x xs → matches O ps l word x ≡ true) → polynomials_of O word l xs ≡ ps
  polynomials_only ps P all =
      ext_get_or [] (polynomials_of O word l xs) ps (length_of_lem O word l xs ∙ sym P.size) (λ i h. same i (omega (arith, length_of_lem O word l xs)))
    where
      same : (i : ℕ) → i < l → get_or (polynomials_of O word l xs) i [] ≡ get_or ps i []
      same i h =
          polynomial_at O word l xs i h
          ∙ unique_degree F t xs (interpolate O xs (λ x. word x i)) (get_or ps i []) K.points (omega (arith, K.many)) (degree_of i h) (P.degree i h)
          (λ x m. eval-interpolate F xs (λ y. word y i) K.points (λ y k. K.words y k i h) x m ∙ sym (matches-at O ps l word x (all x m) i h))

  module _ {f n : ℕ} {usable : ℕ → Bool} {ps : List (List ℕ)} (R : Reaches O t f n usable word l ps) where
    -- keepers that agree have the polynomials that reach need
    pub agreed_reaching : ((x : ℕ) → In x xs → agreeing O usable word l ps x ≡ true) → reaching O t f n usable word l xs ≡ true
    unfolding reaching
    agreed_reaching all = rw (polynomials_only ps R.polynomials (λ x m. agreeing-matches O ps l word x usable (all x m))) (le-leb _ _ R.enough)

    -- and keepers whose polynomials do so agree
    pub reaching_agreed : n < O.q → ((x : ℕ) → In x xs → usable x ≡ true) → reaching O t f n usable word l xs ≡ true
        → (x : ℕ) → In x xs → agreeing O usable word l ps x ≡ true
    unfolding reaching
    reaching_agreed apart all e x m =
        let own : Reaches O t f n usable word l (polynomials_of O word l xs) = record { polynomials = polynomials_of_lem; enough = leb-true _ _ e } in
        rw (reaches_only F t n apart usable word l f (polynomials_of O word l xs) ps own R) at (agreeing_holds O (polynomials_of O word l xs) l word x usable (all x m) (polynomials_match x m))
