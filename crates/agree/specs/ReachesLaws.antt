-- Only one agreement, over any field that tells the keepers apart.
-- Assumes nothing.
use Rattle.std.specs.Prelude.{ℕ, suc, ◌+◌, ◌≤◌, ◌<◌, ◌≡◌, Bool, List, [], length, get_or}
use Rattle.std.proofs.Common.{sym, ◌∙◌, arith, ext_get_or}
use Rattle.lists.specs.Chosen.{chosen, length-chosen, count-chosen}
use Rattle.lists.specs.Count.{count, count-both, count_mono}
use Rattle.lists.specs.From.{from}
use Rattle.algebra.specs.Agreement.{agreement_shared}
use Rattle.algebra.specs.Field.{Ops, IsField}
use Rattle.algebra.specs.Points.{points_from, points_chosen}
use Rattle.agree.specs.AgreementLaws.{matches-at, agreeing-usable}
use Rattle.agree.specs.Agreement.{Polynomials, matches, agreeing, needed, Reaches}

module _ {O : Ops} (F : IsField O) (t n : ℕ) (apart : n < O.q) (usable : ℕ → Bool) (word : ℕ → ℕ → ℕ) (l : ℕ) where
  -- polynomials that together match t + 1 letters more than are usable match t + 1 letters both, and are the same
  pub agreeing_same : (ps ps' : List (List ℕ)) → Polynomials O t l ps → Polynomials O t l ps'
      → suc t + count usable (from 1 n) ≤ count (agreeing O usable word l ps) (from 1 n) + count (agreeing O usable word l ps') (from 1 n) → ps ≡ ps'
  agreeing_same ps ps' P P' h = ext_get_or [] ps ps' (P.size ∙ sym P'.size) same
    where
      same : (i : ℕ) → i < length ps → get_or ps i [] ≡ get_or ps' i []
      same i k =
          let xs = chosen usable (from 1 n) in
          let a = matches O ps l word in
          let b = matches O ps' l word in
          let within : i < l = omega (arith, P.size) in
          agreement_shared F t xs (λ x. word x i) a b (get_or ps i []) (get_or ps' i []) (points_chosen usable (points_from O.q 1 n (omega arith)))
          (P.degree i within) (P'.degree i within) (λ x m e. matches-at O ps l word x e i within) (λ x m e. matches-at O ps' l word x e i within)
          (omega (arith, count-both a b xs, length-chosen usable (from 1 n), count-chosen usable a (from 1 n), count-chosen usable b (from 1 n)))

  -- "Any polynomials that reach need are the only ones."
  pub reaches_only : (f : ℕ) (ps ps' : List (List ℕ)) → Reaches O t f n usable word l ps → Reaches O t f n usable word l ps' → ps ≡ ps'
  reaches_only f ps ps' R R' = agreeing_same ps ps' R.polynomials R'.polynomials (omega (arith, R.enough, R'.enough))

  -- polynomials that fall short of need, and so near it that any that reached it would be the same: then none reach it
  pub none_reaches : (f : ℕ) (ps : List (List ℕ)) → Polynomials O t l ps
      → suc t + count usable (from 1 n) ≤ needed t f n usable + count (agreeing O usable word l ps) (from 1 n)
      → count (agreeing O usable word l ps) (from 1 n) < needed t f n usable → (ps' : List (List ℕ)) → Reaches O t f n usable word l ps' → ⊥
  none_reaches f ps P near short ps' R =
      let e = agreeing_same ps' ps R.polynomials P (omega (arith, R.enough)) in
      let enough = rw e at R.enough in
      omega arith

-- who reaches need has enough letters to match
pub reaches_many : {O : Ops} {t f n l : ℕ} {usable : ℕ → Bool} {word : ℕ → ℕ → ℕ} {ps : List (List ℕ)} → Reaches O t f n usable word l ps
    → t + f + 1 ≤ count usable (from 1 n)
reaches_many {O} {n = n} {l} {usable} {word} {ps} R =
    omega (arith, R.enough, count_mono (agreeing O usable word l ps) usable (from 1 n) (λ x m e. agreeing-usable O ps l word x usable e))
