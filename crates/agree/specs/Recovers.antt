-- The constants, recovered: words carried to 0 from keepers that agree.
-- Assumes nothing.
use Rattle.std.specs.Prelude.{ℕ, ◌<◌, ◌≡◌, Bool, List, [], ◌∷◌, length, get_or}
use Rattle.std.proofs.Common.{sym, ap, ◌∙◌, arith}
use Rattle.std.proofs.lemmas.List.{length-map}
use Rattle.std.proofs.Math.ListN.{get_or-map}
use Rattle.lists.specs.Below.{below_head}
use Rattle.lists.specs.From.{from, from_in}
use Rattle.lists.specs.KeeperSet.{keeper_set, member}
use Rattle.lists.specs.KeeperSetLaws.{member_passes}
use Rattle.lists.specs.Listed.{listed, listed_is, listed_same}
use Rattle.lists.specs.Member.{In}
use Rattle.algebra.specs.Field.{Ops, IsField}
use Rattle.algebra.specs.Points.{Points}
use Rattle.algebra.specs.Poly.{eval, eval-zero, Degree}
use Rattle.weigh.specs.Weigh.{carried}
use Rattle.agree.specs.Agreement.{Reaches, agreeing, constants}
use Rattle.agree.specs.AgreementLaws.{agreeing-matches, matches-at}
use Rattle.search.specs.Base.{Base, base_length, base_passes, base_within, base_points}
use Rattle.search.specs.Carried.{carried_on}

-- the constants of whatever polynomials reach need, where the set is that of the keepers that match them
abbrev pub Recovers : Ops → ℕ → ℕ → ℕ → (ℕ → ℕ → ℕ) → ℕ → List ℕ → Type 0
Recovers O t n set words l row =
    (f : ℕ) (usable : ℕ → Bool) (ps : List (List ℕ)) → Reaches O t f n usable words l ps → set ≡ keeper_set (agreeing O usable words l ps) n → row ≡ constants ps

constants-listed : (ps : List (List ℕ)) (l : ℕ) → length ps ≡ l → constants ps ≡ listed (λ i. get_or (get_or ps i []) 0 0) l
constants-listed ps l s = listed_is (λ i. get_or (get_or ps i []) 0 0) l (constants ps) (length-map ps (λ p. get_or p 0 0) ∙ s) (λ i h. get_or-map (λ p. get_or p 0 0) ps i [])

module _ {O : Ops} (F : IsField O) where
  eval_constant : (t : ℕ) (p : List ℕ) → Degree O t p → eval O p 0 ≡ get_or p 0 0
  eval_constant t [] d = absurd (omega (arith, d.size))
  eval_constant t (c ∷ cs) d = eval-zero F c cs (below_head O.q c cs d.below)

  pub recovered : {t n set : ℕ} {xs : List ℕ} → Base t n (member set) xs → Points O.q (from 1 n) → (words : ℕ → ℕ → ℕ) (l : ℕ) (row : List ℕ)
      → row ≡ listed (λ i. carried O xs (λ a. words a i) 0) l → Recovers O t n set words l row
  recovered {t} {n} {set} {xs} B P words l row e f usable ps r s =
      e ∙ listed_same (λ i. carried O xs (λ a. words a i) 0) (λ i. get_or (get_or ps i []) 0 0) l constant ∙ sym (constants-listed ps l r.polynomials.size)
    where
      on : (i : ℕ) → i < l → (a : ℕ) → In a xs → eval O (get_or ps i []) a ≡ words a i
      on i h a m =
          let b = from_in 1 n a (base_within B a m) in
          let g = member_passes (agreeing O usable words l ps) n a b.0 (ap (λ (z : ℕ). member z a) (sym s) ∙ base_passes B a m) in
          matches-at O ps l words a (agreeing-matches O ps l words a usable g) i h

      constant : (i : ℕ) → i < l → carried O xs (λ a. words a i) 0 ≡ get_or (get_or ps i []) 0 0
      constant i h =
          let d = r.polynomials.degree i h in
          carried_on F t xs (λ a. words a i) (base_points B P) (get_or ps i []) d (omega (arith, base_length B)) (on i h) 0 ∙ eval_constant t (get_or ps i []) d
