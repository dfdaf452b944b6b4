-- The search for a polynomial at one word, a keeper at a time: whoever matches is included, and the others are skipped.
-- Assumes nothing.
use Rattle.std.specs.Prelude.{ℕ, ◌+◌, ◌-◌, ◌^◌, ◌≤◌, ◌<◌, ◌≡◌, refl, Bool, true, false, ◌&&◌, List, eqb}
use Rattle.std.proofs.Common.{sym, ap, ◌∙◌, lt_of_lt_of_le, arith, pow_mono, eqb-true}
use Rattle.std.proofs.Math.Bool.{and-eq-true_iff}
use Rattle.std.specs.Int.Count.{ones}
use Rattle.lists.specs.Count.{count, count_same}
use Rattle.lists.specs.From.{from, from_in, in_from}
use Rattle.lists.specs.KeeperSet.{keeper_set, member}
use Rattle.lists.specs.KeeperSetLaws.{keeper_set_same, keeper_set_joined, keeper_set_skipped, ones-keeper_set, joined_lt, ones_joined, member_passes}
use Rattle.lists.specs.Member.{In}
use Rattle.lists.specs.Rising.{count_next, count_behind}
use Rattle.algebra.specs.Field.{Ops}
use Rattle.algebra.specs.Poly.{eval, Degree}
use Rattle.search.specs.Finds.{finds_none, finds_less}
use Rattle.search.specs.Search.{matched, Finds, Through, OnTrack, Searched, Narrows, Sought}

-- a polynomial on track
module _ {O : Ops} {n need : ℕ} {among : ℕ → Bool} {y : ℕ → ℕ} {base next skips : ℕ} {p : List ℕ} (k : OnTrack O n need among y base next skips p) where
  -- the base is whole: it goes through its words
  track_through : Through O n (member base) y p
  track_through x m e =
      let h = member_passes (matched O among y p) next x (from_in 1 n x m).0 (rw k.so_far at e) in
      eqb-true (eval O p x) (y x) ((and-eq-true_iff (among x) (eqb (eval O p x) (y x))).0 h).1

  ones_track : ones base ≡ count (matched O among y p) (from 1 next)
  ones_track = ap ones k.so_far ∙ ones-keeper_set (matched O among y p) next

  -- a keeper that is not of the set
  track_outside : among (next + 1) ≡ false → OnTrack O n need among y base (next + 1) skips p
  track_outside e = record {
    so_far = k.so_far ∙ sym (keeper_set_skipped (matched O among y p) next (ap (λ (b : Bool). b && eqb (eval O p (next + 1)) (y (next + 1))) e));
    spare = omega (arith, k.spare, count_next among next false e);
  }

  -- one of the set: it is included where it matches, else skipped, and one may be
  module _ (e : among (next + 1) ≡ true) where
    track_included : base < 2 ^ next → matched O among y p (next + 1) ≡ true → OnTrack O n need among y (base + 2 ^ next) (next + 1) skips p
    track_included l h = record {
      so_far = ap (λ (s : ℕ). s + 2 ^ next) k.so_far ∙ sym (keeper_set_joined (matched O among y p) next h);
      spare = omega (arith, k.spare, count_next among next true e, ones_joined base next l);
    }

    module _ (h : matched O among y p (next + 1) ≡ false) where
      track_spare : next < n → need ≤ count (matched O among y p) (from 1 n) → 1 ≤ skips
      track_spare l enough =
          let behind = count_behind (matched O among y p) among (next + 1) n (omega arith) (λ x g. ((and-eq-true_iff (among x) (eqb (eval O p x) (y x))).0 g).0) in
          omega (arith, k.spare, ones_track, count_next among next true e, count_next (matched O among y p) next false h)

      track_skipped : 1 ≤ skips → OnTrack O n need among y base (next + 1) (skips - 1) p
      track_skipped s = record {
        so_far = k.so_far ∙ sym (keeper_set_skipped (matched O among y p) next h);
        spare = omega (arith, k.spare, count_next among next true e);
      }

-- what each way of the search asks of the next
module _ {t need base lack next : ℕ} (s : Sought t need base lack next) (l : next < 16) where
  before_next : base < 2 ^ (next + 1)
  before_next = lt_of_lt_of_le s.before (pow_mono {i = next} {j = next + 1} (omega arith))

  pub sought_past : Sought t need base lack (next + 1)
  sought_past = record { small = s.small; enough = s.enough; before = before_next; within = omega arith; lacks = s.lacks }

  pub sought_joined : (one : ℕ) → one ≡ 2 ^ next → (lack ≡ 0 → ⊥) → Sought t need (base + one) (lack - 1) (next + 1)
  sought_joined one e other = rw e (record {
    small = s.small;
    enough = s.enough;
    before = joined_lt base next s.before;
    within = omega arith;
    lacks = omega (arith, s.lacks, ones_joined base next s.before);
  })

-- what each way of the search comes to
module _ {O : Ops} {t n need : ℕ} {among : ℕ → Bool} {y : ℕ → ℕ} {base next skips : ℕ} where
  pub search_done : {set : ℕ} → Finds O t n need among y (Through O n (member base) y) set → Searched O t n need among y base next skips set
  search_done = finds_less (λ p d h k. track_through k)

  pub search_past : next ≡ n → ones base < need → Searched O t n need among y base next skips 0
  search_past e l = finds_none (λ p d h k. let s : ones base ≡ count (matched O among y p) (from 1 n) = rw (← e) (ones_track k) in omega arith)

  pub search_outside : {set : ℕ} → among (next + 1) ≡ false → Searched O t n need among y base (next + 1) skips set → Searched O t n need among y base next skips set
  search_outside e = finds_less (λ p d h k. track_outside k e)

-- the next keeper is of the set, and nothing was found with it in the base
pub record Missed (O : Ops) (t n need : ℕ) (among : ℕ → Bool) (y : ℕ → ℕ) (base next skips : ℕ) : Type 0 where
  pub within : next < n
  pub before : base < 2 ^ next
  pub of : among (next + 1) ≡ true
  pub searched : Searched O t n need among y (base + 2 ^ next) (next + 1) skips 0

module _ {O : Ops} {t n need : ℕ} {among : ℕ → Bool} {y : ℕ → ℕ} {base next skips : ℕ} (m : Missed O t n need among y base next skips) where
  -- so what is on track does not match it, and one may be skipped
  module _ (p : List ℕ) (d : Degree O t p) (h : need ≤ count (matched O among y p) (from 1 n)) (k : OnTrack O n need among y base next skips p) where
    differs : matched O among y p (next + 1) ≡ false
    differs = other (matched O among y p (next + 1)) refl
      where
        other : (c : Bool) → matched O among y p (next + 1) ≡ c → c ≡ false
        other true g = absurd (m.searched.complete p d h (track_included k m.of m.before g) refl)
        other false g = refl

    spare : 1 ≤ skips
    spare = track_spare k m.of differs m.within h

  pub search_stuck : skips ≡ 0 → Searched O t n need among y base next skips 0
  search_stuck s = finds_none (λ p d h k. omega (arith, spare p d h k))

  pub search_skipped : {set : ℕ} → Searched O t n need among y base (next + 1) (skips - 1) set → Searched O t n need among y base next skips set
  search_skipped = finds_less (λ p d h k. track_skipped k m.of (differs p d h k) (spare p d h k))

-- a search from the first keeper on, with as many to skip as there are past need
pub search_whole : {O : Ops} {t n need : ℕ} {among : ℕ → Bool} {y : ℕ → ℕ} {skips set : ℕ} → count among (from 1 n) ≤ need + skips
    → Searched O t n need among y 0 0 skips set → Narrows O t n need among y set
unfolding ones keeper_set
search_whole l = finds_less (λ p d h _. record { so_far = refl; spare = omega arith })

-- words that are the same give the same
pub narrows_same : {O : Ops} {t n need : ℕ} {among : ℕ → Bool} {y : ℕ → ℕ} (z : ℕ → ℕ) {set : ℕ} → ((x : ℕ) → In x (from 1 n) → y x ≡ z x)
    → Narrows O t n need among y set → Narrows O t n need among z set
narrows_same {O} {t} {n} {need} {among} {y} z {set} e f = record {
  sound = λ other. let g = f.sound other in record {
    polynomial = g.polynomial;
    degree = g.degree;
    enough = omega (arith, g.enough, many g.polynomial);
    matching = g.matching ∙ keeper_set_same (matched O among y g.polynomial) (matched O among z g.polynomial) n (λ x l h. alike g.polynomial x (in_from 1 n x l (omega arith)));
  };
  complete = λ p d h u. f.complete p d (omega (arith, many p)) u;
}
  where
    alike : (p : List ℕ) (x : ℕ) → In x (from 1 n) → matched O among y p x ≡ matched O among z p x
    alike p x m = ap (λ (v : ℕ). among x && eqb (eval O p x) v) (e x m)

    many : (p : List ℕ) → count (matched O among y p) (from 1 n) ≡ count (matched O among z p) (from 1 n)
    many p = count_same (matched O among y p) (matched O among z p) (from 1 n) (alike p)
