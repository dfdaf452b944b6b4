-- An outcome, from the numbers and the set that were found.
-- Assumes nothing.
use Rattle.std.specs.Prelude.{ℕ, Option, None, Some, ◌+◌, ◌≤◌, ◌<◌, ◌≡◌, refl, Bool, true, false, cond, List, length}
use Rattle.std.proofs.Common.{ap, ◌∙◌, arith}
use Rattle.std.specs.Int.Count.{ones}
use Rattle.lists.specs.Count.{count}
use Rattle.lists.specs.From.{from}
use Rattle.lists.specs.KeeperSet.{keeper_set}
use Rattle.algebra.specs.Agreement.{need}
use Rattle.algebra.specs.Field.{Ops}
use Rattle.block.specs.Check.{all_at_most}
use Rattle.agree.specs.Agreement.{agreeing, needed, Reaches, constants}
use Rattle.agree.specs.Kept.{Agreed, Found}
use Rattle.agree.specs.SizeLaws.{few_agree, enough_agree}
use Rattle.search.specs.declared.keepers.KeeperSet.{KeeperSet}
use Rattle.join.specs.Join.{answer, hunt, hunted, Outcome, few, apart, wide, joined}
use Rattle.join.specs.Revealed.{Revealed}

-- the set of an agreement, or none where no polynomials reach need
abbrev pub AgreedOrNone : Ops → ℕ → ℕ → ℕ → (ℕ → Bool) → (ℕ → ℕ → ℕ) → ℕ → Option KeeperSet → Type 0
AgreedOrNone O t f n us word l None = (ps : List (List ℕ)) → Reaches O t f n us word l ps → ⊥
AgreedOrNone O t f n us word l (Some set) = Agreed O t f n us word l set.bits

pub least_needed : (t f n : ℕ) (us : ℕ → Bool) {m least : ℕ} → m ≡ count us (from 1 n) → least ≡ need m t f → least ≡ needed t f n us
least_needed t f n us many enough = enough ∙ ap (λ (k : ℕ). need k t f) many

-- "The size of the agreement is the number of ones in that set": where it reaches need, the set is that of an agreement
pub agreed_found : {O : Ops} {t f n least l set : ℕ} {us : ℕ → Bool} {word : ℕ → ℕ → ℕ} → least ≡ needed t f n us
    → Found O t f n us word l set → least ≤ ones set → Agreed O t f n us word l set
agreed_found needs found size = enough_agree found (omega arith)

pub apart_found : {O : Ops} {t f n least l set : ℕ} {us : ℕ → Bool} {word : ℕ → ℕ → ℕ} → least ≡ needed t f n us
    → Found O t f n us word l set → ones set < least → (ps : List (List ℕ)) → Reaches O t f n us word l ps → ⊥
apart_found needs found size = few_agree found (omega arith)

module _ {O : Ops} {t f n : ℕ} {us : ℕ → Bool} {word : ℕ → ℕ → ℕ} {l : ℕ} {room : List ℕ} where
  by_bytes : (ps : List (List ℕ)) → Reaches O t f n us word l ps → (bytes : Bool) → all_at_most 255 (constants ps) ≡ bytes
      → Outcome O t f n us word l room (answer (cond bytes 0 8) (count us (from 1 n)) (needed t f n us) (keeper_set (agreeing O us word l ps) n) (hunted O t f n us word l)) (cond bytes (constants ps) room)
  by_bytes ps R true e = joined ps R e
  by_bytes ps R false e = wide ps R e

  module _ {m least : ℕ} (many : m ≡ count us (from 1 n)) (enough : least ≡ need m t f) where
    pub few_judged : m < t + f + 1 → Outcome O t f n us word l room (answer 6 m least 0 0) room
    few_judged h = rw (least_needed t f n us many enough, many) (few (omega arith))

    pub apart_judged : {all : ℕ} → t + f + 1 ≤ m → ((ps : List (List ℕ)) → Reaches O t f n us word l ps → ⊥) → all ≡ length (hunt t n us)
        → Outcome O t f n us word l room (answer 7 m least 0 all) room
    apart_judged h none counts = rw (least_needed t f n us many enough, many, counts) (apart (omega arith) none)

    pub agreed_judged : {set number tried : ℕ} {left : List ℕ} (a : Agreed O t f n us word l set) → Revealed (constants a.polynomials) room number left → tried ≡ hunted O t f n us word l
        → Outcome O t f n us word l room (answer number m least set tried) left
    agreed_judged a o counts =
        rw (least_needed t f n us many enough, many, a.agree, counts, o.answers, o.leaves) (by_bytes a.polynomials a.reaches (all_at_most 255 (constants a.polynomials)) refl)
