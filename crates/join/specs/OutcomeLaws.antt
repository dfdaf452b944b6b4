-- The outcome that the usable letters have is the only one.
-- Assumes nothing.
use Rattle.std.specs.Prelude.{ℕ, ◌+◌, ◌≤◌, ◌<◌, ◌≡◌, refl, Bool, false, cond, List, length}
use Rattle.std.proofs.Common.{sym, arith}
use Rattle.lists.specs.Count.{count}
use Rattle.lists.specs.From.{from}
use Rattle.lists.specs.KeeperSet.{keeper_set}
use Rattle.lists.specs.KeeperSetPast.{count_past}
use Rattle.algebra.specs.Field.{Ops, IsField}
use Rattle.block.specs.Check.{all_at_most}
use Rattle.agree.specs.Agreement.{agreeing, needed, Reaches, constants}
use Rattle.agree.specs.PastLaws.{agreeing-past, reaches_within, reaches_past}
use Rattle.agree.specs.ScanLaws.{SameScan, scan_many, scan_set, scan_reaches, scan_back}
use Rattle.agree.specs.ReachesLaws.{reaches_only, reaches_many}
use Rattle.join.specs.Join.{Joined}
use Rattle.join.specs.HuntLaws.{hunt_scan, hunted_scan, hunt-past, hunted-past}
use Rattle.join.specs.Join.{answer, hunt, hunted, Outcome, few, apart, wide, joined}

module _ {O : Ops} {t f n l : ℕ} {us : ℕ → Bool} {word : ℕ → ℕ → ℕ} {room : List ℕ} where
  few_outcome : {result : Joined} {left : List ℕ} → Outcome O t f n us word l room result left → count us (from 1 n) < t + f + 1
      → (result ≡ answer 6 (count us (from 1 n)) (needed t f n us) 0 0) × (left ≡ room)
  few_outcome (few h) g = (refl, refl)
  few_outcome (apart h none) g = absurd (omega arith)
  few_outcome (wide ps R e) g = absurd (omega (arith, reaches_many R))
  few_outcome (joined ps R e) g = absurd (omega (arith, reaches_many R))

  apart_outcome : {result : Joined} {left : List ℕ} → Outcome O t f n us word l room result left → t + f + 1 ≤ count us (from 1 n)
      → ((ps : List (List ℕ)) → Reaches O t f n us word l ps → ⊥) → (result ≡ answer 7 (count us (from 1 n)) (needed t f n us) 0 (length (hunt t n us))) × (left ≡ room)
  apart_outcome (few h) g none = absurd (omega arith)
  apart_outcome (apart h none') g none = (refl, refl)
  apart_outcome (wide ps R e) g none = absurd (none ps R)
  apart_outcome (joined ps R e) g none = absurd (none ps R)

  module _ (F : IsField O) (told : n < O.q) where
    pub reaches_outcome : {result : Joined} {left : List ℕ} → Outcome O t f n us word l room result left → (ps : List (List ℕ)) → Reaches O t f n us word l ps
        → (result ≡ answer (cond (all_at_most 255 (constants ps)) 0 8) (count us (from 1 n)) (needed t f n us) (keeper_set (agreeing O us word l ps) n) (hunted O t f n us word l))
        × (left ≡ cond (all_at_most 255 (constants ps)) (constants ps) room)
    reaches_outcome (few h) ps R = absurd (omega (arith, reaches_many R))
    reaches_outcome (apart h none) ps R = absurd (none ps R)
    reaches_outcome (wide ps' R' e) ps R = let s = reaches_only F t n told us word l f ps ps' R R' in (rw (s, e), rw (s, e))
    reaches_outcome (joined ps' R' e) ps R = let s = reaches_only F t n told us word l f ps ps' R R' in (rw (s, e), rw (s, e))

    -- any two outcomes are the same
    pub outcome_same : {result result' : Joined} {left left' : List ℕ} → Outcome O t f n us word l room result left → Outcome O t f n us word l room result' left'
        → (result ≡ result') × (left ≡ left')
    outcome_same (few h) D = let e = few_outcome D h in (sym e.0, sym e.1)
    outcome_same (apart h none) D = let e = apart_outcome D h none in (sym e.0, sym e.1)
    outcome_same (wide ps R e) D = let g = rw e at (reaches_outcome D ps R) in (sym g.0, sym g.1)
    outcome_same (joined ps R e) D = let g = rw e at (reaches_outcome D ps R) in (sym g.0, sym g.1)

-- what the room held changes no number
pub outcome_room : {O : Ops} {t f n l : ℕ} {us : ℕ → Bool} {word : ℕ → ℕ → ℕ} {room left : List ℕ} {result : Joined} (other : List ℕ)
    → Outcome O t f n us word l room result left → (left' : List ℕ) × Outcome O t f n us word l other result left'
outcome_room other (few h) = (other, few h)
outcome_room other (apart h none) = (other, apart h none)
outcome_room other (wide ps R e) = (other, wide ps R e)
outcome_room other (joined ps R e) = (constants ps, joined ps R e)

-- What the usable letters come to is said of them alone: of how many they are, of who matches, of the sets tried, and of what reaches need.
record Alike (O : Ops) (t f l n n' : ℕ) (us us' : ℕ → Bool) (word word' : ℕ → ℕ → ℕ) : Type 0 where
  many : count us (from 1 n) ≡ count us' (from 1 n')
  set : (ps : List (List ℕ)) → keeper_set (agreeing O us word l ps) n ≡ keeper_set (agreeing O us' word' l ps) n'
  all : hunt t n us ≡ hunt t n' us'
  tried : hunted O t f n us word l ≡ hunted O t f n' us' word' l
  there : (ps : List (List ℕ)) → Reaches O t f n us word l ps → Reaches O t f n' us' word' l ps
  back : (ps : List (List ℕ)) → Reaches O t f n' us' word' l ps → Reaches O t f n us word l ps

outcome_alike : {O : Ops} {t f l n n' : ℕ} {us us' : ℕ → Bool} {word word' : ℕ → ℕ → ℕ} {room left : List ℕ} {result : Joined}
    → Alike O t f l n n' us us' word word' → Outcome O t f n us word l room result left → Outcome O t f n' us' word' l room result left
outcome_alike A (few h) = rw A.many (few (omega (arith, A.many)))
outcome_alike A (apart h none) = rw (A.many, A.all) (apart (omega (arith, A.many)) (λ ps R. none ps (A.back ps R)))
outcome_alike A (wide ps R e) = rw (A.many, A.set ps, A.tried) (wide ps (A.there ps R) e)
outcome_alike A (joined ps R e) = rw (A.many, A.set ps, A.tried) (joined ps (A.there ps R) e)

-- the same scan, the same outcome
pub outcome_scan : {O : Ops} {t f n l : ℕ} {us us' : ℕ → Bool} {word word' : ℕ → ℕ → ℕ} {room left : List ℕ} {result : Joined} → SameScan n l us us' word word'
    → Outcome O t f n us word l room result left → Outcome O t f n us' word' l room result left
outcome_scan {O} {t} {f} S = outcome_alike (record {
  many = scan_many S;
  set = λ ps. scan_set S O ps;
  all = hunt_scan S t;
  tried = hunted_scan S O t f;
  there = λ ps. scan_reaches S O ps t f;
  back = λ ps. scan_reaches (scan_back S) O ps t f;
})

-- keepers past k, none of whom is usable, change nothing
pub outcome_within : {O : Ops} {t f k n l : ℕ} {us : ℕ → Bool} {word : ℕ → ℕ → ℕ} {room left : List ℕ} {result : Joined}
    → ((x : ℕ) → k < x → us x ≡ false) → k ≤ n → Outcome O t f n us word l room result left → Outcome O t f k us word l room result left
outcome_within {O} {t} {f} {k} {n} {l} {us} {word} none h = outcome_alike (record {
  many = count_past us k none n h;
  set = agreeing-past none h O word l;
  all = hunt-past none h t;
  tried = hunted-past none h O t f word l;
  there = λ ps. reaches_within none h O word l ps t f;
  back = λ ps. reaches_past none h O word l ps t f;
})
