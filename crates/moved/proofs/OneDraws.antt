-- Demand 3, of what one old keeper draws: the random words of the others may be fixed, whatever they are, and still t new keepers learn nothing of the secret from
-- their letters, as long as one old keeper draws its words at random.
-- Assumes nothing.
use Rattle.std.specs.Prelude.{ℕ, ◌*◌, ◌<◌, ◌≡◌, List, length, get_or}
use Rattle.std.proofs.Common.{sym, ap, ◌∙◌}
use Rattle.lists.specs.Below.{Below}
use Rattle.lists.specs.ExactlyOne.{ExactlyOne}
use Rattle.algebra.specs.Field.{Ops}
use Rattle.tray.specs.Tray.{slot_of}
use Rattle.shares.specs.Shares.{share_words}
use Rattle.shares.specs.ShareWords.{length-share_words, below_share_words}
use Rattle.cut.specs.Cut.{cut_tray}
use Rattle.cut.specs.LetterField.{LetterField}
use Rattle.cut.specs.OneCut.{OneCut, shares_cut}
use Rattle.demands.specs.SameShares.{GivesSame}
use Rattle.demands.specs.Secrecy.{AnyKeepers, GivesSameBytes}
use Rattle.demands.proofs.Secrecy.{secrecy}
use Rattle.moving.specs.declared.terms.Move.{Move}
use Rattle.moving.specs.Move.{old_told}
use Rattle.moved.proofs.CarriedPolynomials.{length-sums, below_sums}
use Rattle.moved.proofs.Handed.{old_keeper}
use Rattle.moved.specs.Moved.{OneMove, moved_tray, carried_random}
use Rattle.moved.specs.OneChanged.{instead}
use Rattle.moved.proofs.OneChanged.{instead_has, giving, length_giving, below_giving, giving_gives, giving_only}
use Rattle.moved.specs.TheMove.{held_in}
use Rattle.moved.proofs.TheMove.{zero_points, the_move, the_move_cut}
use Rattle.moved.specs.OneDraws.{moved_instead}

module _ {O : Ops} (F : LetterField O) {m : Move} {froms : List ℕ} {shares random : ℕ → List ℕ} (M : OneMove O m froms shares random) where
  -- the same move of another cut's letters, with other words drawn by one old keeper
  module _ {stamp : ℕ} {secret first : List ℕ} (C : OneCut O (old_told m) stamp secret first) (s : length secret ≡ m.length)
      (j : ℕ) (drawn : List ℕ) (size : length drawn ≡ m.length * m.told.order.t) (below : Below O.q drawn) where
    move_instead : OneMove O m froms (held_in (cut_tray O (old_told m) stamp secret first) m.length froms) (instead random j drawn)
    move_instead = record {
      old_lawful = M.old_lawful;
      told_lawful = M.told_lawful;
      stamp_lawful = M.stamp_lawful;
      length_lawful = M.length_lawful;
      many = M.many;
      different = M.different;
      keepers = M.keepers;
      shares_size = λ k l. rw (shares-held k l) (length-share_words O m.old.t (get_or froms k 0) secret first ∙ s);
      shares_below = λ k l. rw (shares-held k l) (below_share_words O m.old.t (get_or froms k 0) F.laws secret first);
      random_size = λ k l. instead_has (λ ws. length ws ≡ m.length * m.told.order.t) random j drawn k size (M.random_size k l);
      random_below = λ k l. instead_has (Below O.q) random j drawn k below (M.random_below k l);
    }
      where
        shares-held : (k : ℕ) → k < length froms
            → held_in (cut_tray O (old_told m) stamp secret first) m.length froms k ≡ share_words O m.old.t (get_or froms k 0) secret first
        shares-held k l = rw s at (shares_cut F C (get_or froms k 0) (old_keeper F M k l))

    moved_instead_lem : moved_instead O m stamp secret first froms random j drawn ≡ cut_tray O m.told m.stamp secret (carried_random O m froms (instead random j drawn))
    moved_instead_lem = the_move F C s move_instead

module _ {O : Ops} (F : LetterField O) {m : Move} {stamp : ℕ} {secret first : List ℕ} (C : OneCut O (old_told m) stamp secret first) (s : length secret ≡ m.length)
    {froms : List ℕ} {random : ℕ → List ℕ} (M : OneMove O m froms (held_in (cut_tray O (old_told m) stamp secret first) m.length froms) random)
    {ks : List ℕ} (K : AnyKeepers m.told.order ks)
    {stamp' : ℕ} {secret' first' : List ℕ} (C' : OneCut O (old_told m) stamp' secret' first') (s' : length secret' ≡ length secret)
    (j : ℕ) (l : j < length froms) where
  -- what the new keepers have of the first secret
  abbrev new : List ℕ
  new = moved_tray O m froms (held_in (cut_tray O (old_told m) stamp secret first) m.length froms) random

  -- how many words one old keeper draws
  abbrev count : ℕ
  count = m.length * m.told.order.t

  -- the one list of a cut of the second secret
  one_cut : ExactlyOne (GivesSameBytes O m.told m.stamp ks new secret')
  one_cut = rw (the_move F C s M) (secrecy F (the_move_cut F C s M) K secret' s' C'.of_words.constants_below)

  -- "For any t keepers and two secrets of equal length, for each list of random words for the first exactly one for the second gives those keepers the same
  -- bytes": the lists are those that old keeper number j draws, and whatever the others drew stays.
  pub one_draws : ExactlyOne (GivesSame O m.told.order.t ks secret' (λ drawn x. slot_of (moved_instead O m stamp' secret' first' froms random j drawn) x) (slot_of new))
  one_draws =
      let E = one_cut in
      let e : length secret' ≡ m.length = s' ∙ s in
      let long : length E.one ≡ count = rw e at E.holds.size in
      let drawn = giving F.laws froms (zero_points F M) random j l count E.one in
      let size = length_giving F.laws froms (zero_points F M) random j l count E.one in
      let below = below_giving F.laws froms (zero_points F M) random j l count E.one in
      let gives = giving_gives F.laws froms (zero_points F M) random j l count E.one long E.holds.below in
      record {
        one = drawn;
        holds = record {
          size = rw e size;
          below = below;
          same = λ x i. ap (λ (tray : List ℕ). slot_of tray x) (moved_instead_lem F M C' e j drawn size below
              ∙ ap (cut_tray O m.told m.stamp secret') gives) ∙ E.holds.same x i;
        };
        only = λ other g.
            let sized : length other ≡ count = rw e at g.size in
            let sums = carried_random O m froms (instead random j other) in
            let same : sums ≡ E.one = E.only sums (record {
              size = rw e (length-sums O froms (instead random j other) count);
              below = below_sums O froms (instead random j other) count F.laws;
              same = λ x i. ap (λ (tray : List ℕ). slot_of tray x) (sym (moved_instead_lem F M C' e j other sized g.below)) ∙ g.same x i;
            }) in
            giving_only F.laws froms (zero_points F M) random j l count other drawn sized size g.below below (same ∙ sym gives);
      }
