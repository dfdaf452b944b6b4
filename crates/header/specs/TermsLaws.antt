-- What it says that nothing is wrong with what a call is told.
-- Assumes nothing.
use Rattle.std.specs.Prelude.{ℕ, ◌≤◌, ◌≡◌, true}
use Rattle.header.specs.declared.told.Told.{Told}
use Rattle.header.specs.Passing.{passed, passes, passing}
use Rattle.header.specs.Terms.{lawful_stamp, lawful_length, terms_number}
use Rattle.header.specs.Told.{lawful_told}
use Rattle.header.specs.ToldLaws.{ToldFacts, lawful_told_facts, facts_lawful_told}

module _ (told : Told) (stamp l : ℕ) where
  pub record TermsFacts : Type 0 where
    pub of_told : ToldFacts told
    pub length_least : 1 ≤ l
    pub length_most : l ≤ 952
    pub stamp_least : 1 ≤ stamp
    pub stamp_most : stamp ≤ 4294967295

  pub lawful_terms_facts : lawful_told told ≡ true → lawful_length l ≡ true → lawful_stamp stamp ≡ true → TermsFacts
  lawful_terms_facts told-right length_right stamp-right = search (passed, lawful_told_facts)

  pub facts_lawful_terms : TermsFacts → (lawful_told told ≡ true) × (lawful_length l ≡ true) × (lawful_stamp stamp ≡ true)
  facts_lawful_terms h =
      (facts_lawful_told told h.of_told, simp (passes, h.length_least, h.length_most), simp (passes, h.stamp_least, h.stamp_most))

  pub terms_facts : terms_number told stamp l ≡ 0 → TermsFacts
  unfolding terms_number
  terms_facts e =
      let of_told = passing (lawful_told told) _ 0 e in
      let of_length = passing (lawful_length l) _ 1 of_told.1 in
      let of-stamp = passing (lawful_stamp stamp) 0 2 of_length.1 in
      lawful_terms_facts of_told.0 of_length.0 of-stamp.0

  pub facts_terms : TermsFacts → terms_number told stamp l ≡ 0
  unfolding terms_number
  facts_terms h = let lawful = facts_lawful_terms h in rw (lawful.0, lawful.1, lawful.2)
