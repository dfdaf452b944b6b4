-- The cut's own polynomials: one for each constant, which every letter of the cut matches.
-- Assumes nothing.
use Prim.Native.Nat.{ℕ, zero, suc, ◌*◌, ◌<◌}
use Rattle.std.specs.Prelude.{◌≡◌, refl, true, take, drop}
use Rattle.std.proofs.Math.Path.{sym}
use Rattle.std.proofs.Common.{ap, ◌∙◌, le_of_suc-le-suc, not-suc-le-zero, arith, length-drop, length-take-le, ext_get_or}
use mathlib.Core.List.{List, [], ◌∷◌}
use Rattle.std.proofs.Math.ListN.{length, get_or}
use Rattle.lists.specs.Below.{Below, below_head, below_tail, below_take, below_drop}
use Rattle.algebra.specs.Field.{Ops}
use Rattle.algebra.specs.Poly.{eval, Degree, degree_cons}
use Rattle.header.specs.declared.told.Told.{Told}
use Rattle.header.specs.declared.head.Head.{Head}
use Rattle.header.specs.OrderLaws.{KeeperFacts}
use Rattle.format.specs.Reading.{Good, read_of, shares_of}
use Rattle.format.specs.GoodWritten.{good_written}
use Rattle.format.specs.OneSlot.{same_slot}
use Rattle.tray.specs.Tray.{head_for, slot_of, usable, word_of}
use Rattle.agree.specs.AgreementLaws.{matches-at, matches_holds}
use Rattle.tray.specs.SlotLaws.{below_slot}
use Rattle.tray.proofs.UsableLaws.{usable_reads}
use Rattle.agree.specs.Agreement.{Polynomials, matches, constants}
use Rattle.shares.specs.Shares.{share_words}
use Rattle.shares.specs.ShareWords.{length-share_words}
use Rattle.cut.specs.Cut.{cut_tray}
use Rattle.cut.specs.LetterField.{LetterField}
use Rattle.cut.specs.OneCut.{OneCut, below_cut_tray, read_cut, shares_cut}
use Rattle.demands.specs.CutPolynomials.{cut_polynomials}

pub constants-cut : (t : ℕ) (cs random : List ℕ) → constants (cut_polynomials t cs random) ≡ cs
unfolding cut_polynomials
constants-cut t [] random = refl
constants-cut t (c ∷ cs) random = ap {B = List ℕ} (λ r. c ∷ r) (constants-cut t cs (drop t random))

length_cut : (t : ℕ) (cs random : List ℕ) → length (cut_polynomials t cs random) ≡ length cs
unfolding cut_polynomials
length_cut t [] random = refl
length_cut t (c ∷ cs) random = ap suc (length_cut t cs (drop t random))

degree_cut : (O : Ops) (t : ℕ) (cs random : List ℕ) → Below O.q cs → Below O.q random → length random ≡ length cs * t
    → (i : ℕ) → i < length cs → Degree O t (get_or (cut_polynomials t cs random) i [])
unfolding cut_polynomials
degree_cut O t [] random b r s i h = absurd (not-suc-le-zero h)
degree_cut O t (c ∷ cs) random b r s zero h =
    degree_cons O t c (take t random) (below_head O.q c cs b) (length-take-le t random (omega arith)) (below_take O.q t random r)
degree_cut O t (c ∷ cs) random b r s (suc i) h =
    degree_cut O t cs (drop t random) (below_tail O.q c cs b) (below_drop O.q t random r) (rw length-drop (omega arith)) i (le_of_suc-le-suc h)

eval-cut : (O : Ops) (t x : ℕ) (cs random : List ℕ) (i : ℕ) → i < length cs
    → eval O (get_or (cut_polynomials t cs random) i []) x ≡ get_or (share_words O t x cs random) i 0
unfolding cut_polynomials share_words
eval-cut O t x [] random i h = absurd (not-suc-le-zero h)
eval-cut O t x (c ∷ cs) random zero h = refl
eval-cut O t x (c ∷ cs) random (suc i) h = eval-cut O t x cs (drop t random) i (le_of_suc-le-suc h)

module _ {O : Ops} (F : LetterField O) {told : Told} {stamp : ℕ} {secret random : List ℕ} (C : OneCut O told stamp secret random) where
  pub polynomials_cut : Polynomials O told.order.t (length secret) (cut_polynomials told.order.t secret random)
  polynomials_cut = record {
    size = length_cut told.order.t secret random;
    degree = let W = C.of_words in degree_cut O told.order.t secret random W.constants_below W.random_below W.random_size;
  }

  module _ (tray : List ℕ) (x : ℕ) (k : KeeperFacts told.order x) where
    -- a slot that is the cut's matches
    pub slot-matches : slot_of tray x ≡ slot_of (cut_tray O told stamp secret random) x
        → matches O (cut_polynomials told.order.t secret random) (length secret) (word_of tray (length secret)) x ≡ true
    unfolding word_of
    slot-matches e =
        matches_holds O (cut_polynomials told.order.t secret random) (length secret) (word_of tray (length secret)) x
        (λ i h. eval-cut O told.order.t x secret random i h ∙ sym (word i))
      where
        word : (i : ℕ) → word_of tray (length secret) x i ≡ get_or (share_words O told.order.t x secret random) i 0
        word i = rw (e, shares_cut F C x k)

    -- and a usable slot that matches is the cut's
    pub matches-slot : Below 256 tray → usable told stamp (length secret) tray x ≡ true
        → matches O (cut_polynomials told.order.t secret random) (length secret) (word_of tray (length secret)) x ≡ true
        → slot_of tray x ≡ slot_of (cut_tray O told stamp secret random) x
    unfolding word_of
    matches-slot b u e =
        let there = good_written (slot_of tray x) h within read in
        same_slot (slot_of tray x) (slot_of cut x) h within (below_slot cut x 256 (below_cut_tray F C)) read (read_cut F C x k)
        (ext_get_or 0 (shares_of (slot_of tray x) (length secret)) (shares_of (slot_of cut x) (length secret))
        (there.size ∙ sym (ap length (shares_cut F C x k) ∙ length-share_words O told.order.t x secret random)) (λ i l. same i (omega (arith, there.size))))
      where
        cut : List ℕ
        cut = cut_tray O told stamp secret random

        h : Head
        h = head_for told stamp (length secret) x

        read : read_of (slot_of tray x) ≡ Good h
        read = usable_reads told stamp (length secret) tray x u

        within : Below 256 (slot_of tray x)
        within = below_slot tray x 256 b

        same : (i : ℕ) → i < length secret → word_of tray (length secret) x i ≡ get_or (shares_of (slot_of cut x) (length secret)) i 0
        same i l =
            sym (matches-at O (cut_polynomials told.order.t secret random) (length secret) (word_of tray (length secret)) x e i l)
            ∙ eval-cut O told.order.t x secret random i l ∙ ap (λ (ws : List ℕ). get_or ws i 0) (sym (shares_cut F C x k))
