-- After the last word: whoever is left matches the polynomials found at each word, these reach need, and nobody else matches them.
-- Assumes nothing.
use Rattle.std.specs.Prelude.{ℕ, ◌≤◌, ◌≡◌, Bool, true, List}
use Rattle.std.proofs.Common.{sym, ◌∙◌, arith}
use Rattle.lists.specs.Count.{count_mono}
use Rattle.lists.specs.From.{from, in_from}
use Rattle.lists.specs.KeeperSet.{member}
use Rattle.lists.specs.KeeperSetLaws.{keeper_set_same, keeper_set-member}
use Rattle.lists.specs.Member.{In}
use Rattle.lists.specs.SameTest.{same_test}
use Rattle.algebra.specs.Field.{Ops}
use Rattle.algebra.specs.Poly.{Degree}
use Rattle.search.specs.Search.{Through}
use Rattle.agree.specs.Agreement.{Reaches, agreeing}
use Rattle.agree.specs.AgreementLaws.{agreeing_holds, matches_holds}
use Rattle.agree.specs.Collected.{Collected, collected}
use Rattle.agree.specs.Kept.{Kept, Agreed}

module _ (O : Ops) (t f n : ℕ) (usable : ℕ → Bool) (words : ℕ → ℕ → ℕ) (l set : ℕ) (k : Kept O t f n usable words l set l) where
  -- a polynomial at word j on which the whole set lies
  abbrev Here : ℕ → List ℕ → Type 0
  Here j p = Degree O t p × Through O n (member set) (λ x. words x j) p

  module _ (c : Collected Here l) where
    stays : (x : ℕ) → In x (from 1 n) → member set x ≡ true → agreeing O usable words l c.list x ≡ true
    stays x m e = agreeing_holds O c.list l words x usable (k.within x m e) (matches_holds O c.list l words x (λ i h. (c.each i h).1 x m e))

    reaching : Reaches O t f n usable words l c.list
    reaching = record {
      polynomials = record { size = c.size; degree = λ i h. (c.each i h).0 };
      enough = omega (arith, k.enough, count_mono (member set) (agreeing O usable words l c.list) (from 1 n) stays);
    }

    stayed : (x : ℕ) → 1 ≤ x → x ≤ n → member set x ≡ agreeing O usable words l c.list x
    stayed x b h =
        let m : In x (from 1 n) = in_from 1 n x b (omega arith) in
        same_test (member set x) (agreeing O usable words l c.list x) (stays x m) (k.keeps c.list reaching x m)

    agreed_on : Agreed O t f n usable words l set
    agreed_on = record {
      polynomials = c.list;
      reaches = reaching;
      agree = sym (keeper_set-member n set k.below) ∙ keeper_set_same (member set) (agreeing O usable words l c.list) n stayed;
    }

  pub agreed : Agreed O t f n usable words l set
  agreed = agreed_on (collected Here l (λ j h. let o = k.in_step j h in (o.polynomial, (o.degree, o.through))))
