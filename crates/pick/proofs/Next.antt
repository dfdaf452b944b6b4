-- The greatest rank of a large group below a bound.
-- Assumes nothing.
use Rattle.std.proofs.Common.{ℕ, zero, suc, Option, ◌≤◌, ◌<◌, ◌≡◌, ◌⊎◌, ◌==◌, refl, ◌∙◌, inl, inr, ⊎_elim, max, Bool, true, false, cond, ◌&&◌, List, [], ◌∷◌, length, get_or, filter, fold, count_by, ltb, leb, IfSome, le_of_suc-le-suc, arith}
use Rattle.std.proofs.Math.Decide.{dec_lt}
use Rattle.std.proofs.Math.Logic.{by_cases}
use Rattle.std.specs.List.{reduce}
use borrow.Author.Tests.{ltb-true, leb-true, lt-ltb, le-leb}
use Rattle.header.specs.Passing.{and_left, and_right}
use Rattle.lists.specs.Member.{In}
use Rattle.pick.specs.Ranks.{size_of, is_next, rank_or_none, NextOf}
use Rattle.pick.proofs.Counting.{size-count}

kept : (b : Bool) (x y : ℕ) (ys : List ℕ) → In y ys → In y (cond b (x ∷ ys) ys)
kept true x y ys m = inr m
kept false x y ys m = m

module _ (test : ℕ → Bool) where
  in_filter : (xs : List ℕ) (k : ℕ) → k < length xs → test (get_or xs k 0) ≡ true → In (get_or xs k 0) (filter test xs)
  in_filter [] k h e = absurd (omega arith)
  in_filter (x ∷ xs) zero h e = rw e (inl refl)
  in_filter (x ∷ xs) (suc k) h e = kept (test x) x (get_or xs k 0) (filter test xs) (in_filter xs k (le_of_suc-le-suc h) e)

  by_test : (x y : ℕ) (ys : List ℕ) (b : Bool) → test x ≡ b → (In y ys → test y ≡ true) → In y (cond b (x ∷ ys) ys) → test y ≡ true
  by_test x y ys true e rest m = ⊎_elim (λ (same : y ≡ x). rw same e) rest m
  by_test x y ys false e rest m = rest m

  passes_filter : (xs : List ℕ) (y : ℕ) → In y (filter test xs) → test y ≡ true
  passes_filter [] y m = absurd m
  passes_filter (x ∷ xs) y m = by_test x y (filter test xs) (test x) refl (passes_filter xs y) m

greatest_most : (xs : List ℕ) (a x : ℕ) → (x ≤ a) ⊎ In x xs → x ≤ fold max a xs
greatest_most [] a x m = ⊎_elim (λ h. h) (λ none. absurd none) m
greatest_most (y ∷ ys) a x m =
    greatest_most ys (max a y) x (⊎_elim (λ (h : x ≤ a). inl (omega arith)) (λ n. ⊎_elim (λ (e : x ≡ y). inl (omega arith)) (λ later. inr later) n) m)

greatest_in : (xs : List ℕ) (a : ℕ) → In (fold max a xs) (a ∷ xs)
greatest_in [] a = inl refl
greatest_in (y ∷ ys) a =
    ⊎_elim
    (λ (e : fold max (max a y) ys ≡ max a y).
    by_cases (dec_lt a y) (λ above. inr (inl (e ∙ omega arith))) (λ below. inl (e ∙ omega arith)))
    (λ later. inr (inr later)) (greatest_in ys (max a y))

module _ (ranks : List ℕ) (least bound : ℕ) where
  abbrev test : ℕ → Bool
  test = is_next ranks least bound

  record Next (best : ℕ) : Type 0 where
    some : 1 ≤ best
    below : best < bound
    enough : least ≤ size_of ranks (length ranks) best

  passes_next : (best : ℕ) → test best ≡ true → Next best
  passes_next best e =
      let size = count_by (λ x. x == best) ranks in
      let rest = and_right (ltb 0 best) (ltb best bound && leb least size) e in
      record {
        some = ltb-true 0 best (and_left (ltb 0 best) (ltb best bound && leb least size) e);
        below = ltb-true best bound (and_left (ltb best bound) (leb least size) rest);
        enough = rw (size-count ranks best) (leb-true least size (and_right (ltb best bound) (leb least size) rest));
      }

  next_passes : (rank : ℕ) → 1 ≤ rank → rank < bound → least ≤ size_of ranks (length ranks) rank → test rank ≡ true
  next_passes rank some below enough =
      let large : least ≤ count_by (λ x. x == rank) ranks = rw (size-count ranks rank) at enough in
      rw (lt-ltb 0 rank some, lt-ltb rank bound below, le-leb least (count_by (λ x. x == rank) ranks) large)

  next_in : (ys : List ℕ) → ((k : ℕ) → k < length ranks → test (get_or ranks k 0) ≡ true → In (get_or ranks k 0) ys) → ((y : ℕ) → In y ys → test y ≡ true)
      → NextOf ranks (length ranks) least bound (rank_or_none (reduce max ys)) × IfSome (reduce max ys) (λ rank. 1 ≤ rank)
  next_in [] there passes = (
    record {
      most = λ k within below enough. by_cases (dec_lt 0 (get_or ranks k 0)) (λ some. absurd (there k within (next_passes _ some below enough))) (λ none. omega arith);
      large = λ some. absurd (omega arith);
    },
    tt,
  )
  next_in (y ∷ ys) there passes =
      let best = passes_next (fold max y ys) (passes (fold max y ys) (greatest_in ys y)) in (
        record {
          most = λ k within below enough.
              by_cases (dec_lt 0 (get_or ranks k 0))
              (λ some. greatest_most ys y (get_or ranks k 0) (⊎_elim (λ (e : get_or ranks k 0 ≡ y). inl (omega arith)) (λ later. inr later) (there k within (next_passes _ some below enough))))
              (λ none. omega arith);
          large = λ some. (best.below, best.enough);
        },
        best.some,
      )

-- so what is greatest of them comes next
pub next_of_greatest : {ranks : List ℕ} {n least bound : ℕ} (best : Option ℕ) → length ranks ≡ n → best ≡ reduce max (filter (is_next ranks least bound) ranks)
    → NextOf ranks n least bound (rank_or_none best) × IfSome best (λ rank. 1 ≤ rank)
next_of_greatest {ranks} {n} {least} {bound} best size is =
    rw (is, ← size) (next_in ranks least bound _ (in_filter (is_next ranks least bound) ranks) (passes_filter (is_next ranks least bound) ranks))
