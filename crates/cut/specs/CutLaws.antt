-- What it says that a cut is not refused.
-- Assumes nothing.
use Rattle.std.specs.Prelude.{ℕ, ◌≡◌, List, length}
use Rattle.header.specs.declared.told.Told.{Told}
use Rattle.header.specs.FirstOf.{both_right}
use Rattle.header.specs.Terms.{terms_number}
use Rattle.header.specs.TermsLaws.{TermsFacts, terms_facts, facts_terms}
use Rattle.cut.specs.Cut.{cut_number}
use Rattle.shares.specs.LentLaws.{LentFacts, lent_facts, facts_lent}

module _ (told : Told) (stamp : ℕ) (secret random tray : List ℕ) where
  pub record CutFacts : Type 0 where
    pub of_terms : TermsFacts told stamp (length secret)
    pub of_lent : LentFacts told.order secret random 2048 tray

  pub accepted_facts : cut_number told stamp secret random tray ≡ 0 → CutFacts
  unfolding cut_number
  accepted_facts e =
      let right = both_right (terms_number told stamp (length secret)) _ e in
      record { of_terms = terms_facts told stamp (length secret) right.0; of_lent = lent_facts told.order secret random 2048 tray right.1 }

  pub facts_accepted : CutFacts → cut_number told stamp secret random tray ≡ 0
  unfolding cut_number
  facts_accepted h = rw (facts_terms told stamp (length secret) h.of_terms, facts_lent told.order secret random 2048 tray h.of_lent)
