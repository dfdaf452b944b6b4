-- Secrecy of a list of values: whatever the constants are, the random words can be chosen in exactly one way to give t keepers any share words
-- that other constants gave them.
-- Assumes nothing.
use Rattle.std.specs.Prelude.{ℕ, ◌*◌, ◌≡◌, ◌↔◌, length, take, drop}
use Rattle.std.proofs.Math.Path.{refl, sym, ap₂}
use Rattle.std.proofs.Common.{◌∙◌, arith, length-take, take-append-drop, take_at}
use mathlib.Core.List.{List, [], ◌∷◌, ◌++◌}
use Rattle.std.proofs.Math.ListN.{length-append, length-drop, drop_of_length-le}
use Rattle.std.proofs.Math.Seq.{drop_at}
use Rattle.lists.specs.Below.{Below, below_nil, below_head, below_tail, below_append, below_take, below_drop}
use Rattle.lists.specs.ExactlyOne.{ExactlyOne}
use Rattle.lists.specs.Member.{In}
use Rattle.algebra.specs.Field.{Ops, IsField}
use Rattle.algebra.specs.Points.{Points}
use Rattle.algebra.specs.Poly.{eval}
use Rattle.algebra.specs.Secrecy.{Gives, exchange_exactly_one}
use Rattle.shares.specs.Shares.{share_words}
use Rattle.demands.specs.SameShares.{GivesSame, SameShares}

module _ (O : Ops) (t : ℕ) (ks constants : List ℕ) (gets gets' : List ℕ → ℕ → List ℕ) (has has' : ℕ → List ℕ) where
  -- where what a keeper gets in one form tells what it gets in another, and is told by it, exactly one list gives the same in both
  pub exactly_one_as : ((random : List ℕ) → length random ≡ length constants * t → Below O.q random → (x : ℕ) → In x ks → (gets random x ≡ has x) ↔ (gets' random x ≡ has' x))
      → ExactlyOne (GivesSame O t ks constants gets has) → ExactlyOne (GivesSame O t ks constants gets' has')
  exactly_one_as as-good e =
      let h = e.holds in
      record {
        one = e.one;
        holds = record { size = h.size; below = h.below; same = λ x m. (as-good e.one h.size h.below x m).0 (h.same x m) };
        only = λ other g. e.only other (record { size = g.size; below = g.below; same = λ x m. (as-good other g.size g.below x m).1 (g.same x m) });
      }

module _ {O : Ops} (F : IsField O) (t : ℕ) (ks : List ℕ) (many : length ks ≡ t) (P : Points O.q (0 ∷ ks)) where
  -- one value more
  module _ (c c' : ℕ) (constants constants' random : List ℕ) where
    joined : (first rest : List ℕ) → Gives O ks (eval O (c ∷ take t random)) c' first → SameShares O t ks constants (drop t random) constants' rest
        → SameShares O t ks (c ∷ constants) random (c' ∷ constants') (first ++ rest)
    unfolding share_words
    joined first rest g h = record {
      size = rw length-append (omega (arith, g.size, h.size));
      below = below_append O.q first rest g.below h.below;
      same = λ x m. rw (take_at first rest t (g.size ∙ many), drop_at first rest t (g.size ∙ many)) (ap₂ {C = List ℕ} (λ w ws. w ∷ ws) (g.values x m) (h.same x m));
    }

    parted : (random' : List ℕ) → SameShares O t ks (c ∷ constants) random (c' ∷ constants') random'
        → Gives O ks (eval O (c ∷ take t random)) c' (take t random') × SameShares O t ks constants (drop t random) constants' (drop t random')
    unfolding share_words
    parted random' h = (
      record {
        size = rw (length-take, many) (omega (arith, h.size));
        below = below_take O.q t random' h.below;
        values = λ x m. let e = h.same x m in cc;
      },
      record {
        size = rw length-drop (omega (arith, h.size));
        below = below_drop O.q t random' h.below;
        same = λ x m. let e = h.same x m in cc;
      },
    )

  -- whatever the constants are, one list of random words and no other gives the keepers the share words that other constants gave them
  pub shares_exactly_one : (constants constants' random : List ℕ) → length constants ≡ length constants' → Below O.q constants'
      → ExactlyOne (SameShares O t ks constants random constants')
  unfolding share_words
  shares_exactly_one [] [] random s b = record {
    one = [];
    holds = record { size = omega arith; below = below_nil O.q; same = λ x m. refl };
    only = λ other h. drop_of_length-le other {i = 0} (omega (arith, h.size));
  }
  shares_exactly_one [] (c' ∷ constants') random s b = absurd (omega arith)
  shares_exactly_one (c ∷ constants) [] random s b = absurd (omega arith)
  shares_exactly_one (c ∷ constants) (c' ∷ constants') random s b =
      let e = exchange_exactly_one F ks c c' P (below_head O.q c' constants' b) (take t random) in
      let r = shares_exactly_one constants constants' (drop t random) (omega arith) (below_tail O.q c' constants' b) in
      record {
        one = e.one ++ r.one;
        holds = joined c c' constants constants' random e.one r.one e.holds r.holds;
        only = λ other h.
            let p = parted c c' constants constants' random other h in
            sym (take-append-drop t other) ∙ ap₂ (λ (a b : List ℕ). a ++ b) (e.only (take t other) p.0) (r.only (drop t other) p.1);
      }
