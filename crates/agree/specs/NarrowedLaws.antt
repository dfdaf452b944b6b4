-- A search at one word, among the keepers that have kept step so far: the set that it finds keeps step one word more.
-- Assumes nothing.
use Rattle.std.specs.Prelude.{ℕ, ◌+◌, ◌^◌, ◌≤◌, ◌<◌, ◌≡◌, Bool, true, ◌&&◌, List, [], ◌⊎◌, eqb, length, get_or}
use Rattle.std.proofs.Common.{sym, ap, ◌∙◌, inl, inr, le_trans, eq-or-lt_of_le, arith, eqb-true, eq-eqb}
use Rattle.std.proofs.Math.Path.{subst⁻¹}
use Rattle.std.proofs.Math.Bool.{and-eq-true_iff}
use Rattle.lists.specs.Chosen.{chosen, length-chosen, count-chosen}
use Rattle.lists.specs.Count.{count, both, count_mono, count_same}
use Rattle.lists.specs.From.{from, from_in}
use Rattle.lists.specs.KeeperSet.{keeper_set, member}
use Rattle.lists.specs.KeeperSetLaws.{keeper_set_lt, member-keeper_set}
use Rattle.lists.specs.Member.{In}
use Rattle.algebra.specs.Agreement.{agreement, need}
use Rattle.algebra.specs.Field.{Ops, IsField}
use Rattle.algebra.specs.Points.{Points, points_chosen}
use Rattle.algebra.specs.Poly.{eval, Degree}
use Rattle.search.specs.Search.{matched}
use Rattle.agree.specs.Agreement.{Reaches, agreeing, needed}
use Rattle.agree.specs.AgreementLaws.{agreeing-usable, agreeing-matches, matches-at}
use Rattle.agree.specs.Kept.{OnOne, Kept}

module _ (O : Ops) (t f n : ℕ) (usable : ℕ → Bool) (words : ℕ → ℕ → ℕ) (l : ℕ) where
  -- polynomials that reach need
  module _ (ps : List (List ℕ)) (reach : Reaches O t f n usable words l ps) where
    agreeing-word : (x : ℕ) → agreeing O usable words l ps x ≡ true → (i : ℕ) → i < l → eval O (get_or ps i []) x ≡ words x i
    agreeing-word x e = matches-at O ps l words x (agreeing-matches O ps l words x usable e)

    -- at word i, enough of those that kept step match them
    module _ (set i : ℕ) (k : Kept O t f n usable words l set i) (h : i < l) where
      matched_kept : (x : ℕ) → In x (from 1 n) → agreeing O usable words l ps x ≡ true → matched O (member set) (λ z. words z i) (get_or ps i []) x ≡ true
      matched_kept x m e =
          (and-eq-true_iff (member set x) (eqb (eval O (get_or ps i []) x) (words x i))).1 (k.keeps ps reach x m e, eq-eqb _ _ (agreeing-word x e i h))

      pub reached_here : needed t f n usable ≤ count (matched O (member set) (λ x. words x i) (get_or ps i [])) (from 1 n)
      reached_here = omega (arith, reach.enough, count_mono (agreeing O usable words l ps) (matched O (member set) (λ x. words x i) (get_or ps i [])) (from 1 n) matched_kept)

  -- whoever passes a test that only usable keepers pass is counted among these
  count-usable : (g : ℕ → Bool) → ((x : ℕ) → In x (from 1 n) → g x ≡ true → usable x ≡ true) → needed t f n usable ≤ count g (from 1 n)
      → need (length (chosen usable (from 1 n))) t f ≤ count g (chosen usable (from 1 n))
  count-usable g u h =
      rw (length-chosen usable (from 1 n), count-chosen usable g (from 1 n))
      (le_trans h (count_mono g (both usable g) (from 1 n) (λ x m e. (and-eq-true_iff (usable x) (g x)).1 (u x m e, e))))

  -- the polynomial q that was found at word i
  module _ (set i : ℕ) (k : Kept O t f n usable words l set i) (h : i < l) (q : List ℕ) (d : Degree O t q)
      (enough : needed t f n usable ≤ count (matched O (member set) (λ x. words x i) q) (from 1 n)) where
    abbrev M : ℕ → Bool
    M = matched O (member set) (λ x. words x i) q

    matched_in : (x : ℕ) → M x ≡ true → member set x ≡ true
    matched_in x g = ((and-eq-true_iff (member set x) (eqb (eval O q x) (words x i))).0 g).0

    matched_on : (x : ℕ) → M x ≡ true → eval O q x ≡ words x i
    matched_on x g = eqb-true _ _ ((and-eq-true_iff (member set x) (eqb (eval O q x) (words x i))).0 g).1

    module _ (F : IsField O) (P : Points O.q (from 1 n)) where
      -- "Any polynomials that reach need are the only ones."
      only_here : (ps : List (List ℕ)) → Reaches O t f n usable words l ps → get_or ps i [] ≡ q
      only_here ps reach =
          agreement F t (chosen usable (from 1 n)) (λ x. words x i) (agreeing O usable words l ps) M (get_or ps i []) q (points_chosen usable P)
          (reach.polynomials.degree i h) d (λ x m g. agreeing-word ps reach x g i h) (λ x m g. matched_on x g) f
          (count-usable (agreeing O usable words l ps) (λ x m g. agreeing-usable O ps l words x usable g) reach.enough)
          (count-usable M (λ x m g. k.within x m (matched_in x g)) enough)

      -- the keepers that match it: whoever matches any polynomials that reach need is still among them
      module _ (r : ℕ) (e : r ≡ keeper_set M n) where
        found_is : (x : ℕ) → In x (from 1 n) → member r x ≡ M x
        found_is x m = let b = from_in 1 n x m in ap (λ (s : ℕ). member s x) e ∙ member-keeper_set M n x b.0 (omega arith)

        found_within : (x : ℕ) → In x (from 1 n) → member r x ≡ true → member set x ≡ true
        found_within x m g = matched_in x (sym (found_is x m) ∙ g)

        found_step : (j : ℕ) → (j ≡ i) ⊎ (j < i) → OnOne O t n (member r) (λ x. words x j)
        found_step j (inl s) = rw s (record { polynomial = q; degree = d; through = λ x m g. matched_on x (sym (found_is x m) ∙ g) })
        found_step j (inr s) = let o = k.in_step j s in record { polynomial = o.polynomial; degree = o.degree; through = λ x m g. o.through x m (found_within x m g) }

        found_keeps : (ps : List (List ℕ)) → Reaches O t f n usable words l ps → (x : ℕ) → In x (from 1 n) → agreeing O usable words l ps x ≡ true → member r x ≡ true
        found_keeps ps reach x m g =
            found_is x m
            ∙ ap (λ (p : List ℕ). member set x && eqb (eval O p x) (words x i)) (sym (only_here ps reach))
            ∙ matched_kept ps reach set i k h x m g

        pub kept_found : Kept O t f n usable words l r (i + 1)
        kept_found = record {
          below = subst⁻¹ (λ (s : ℕ). s < 2 ^ n) e (keeper_set_lt M n);
          within = λ x m g. k.within x m (found_within x m g);
          enough = omega (arith, enough, count_same (member r) M (from 1 n) found_is);
          in_step = λ j s. found_step j (eq-or-lt_of_le (omega arith));
          keeps = found_keeps;
        }
