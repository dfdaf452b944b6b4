-- What it says that a head is lawful and that two heads are the same.
-- Assumes nothing.
use Rattle.std.specs.Prelude.{◌≡◌, true}
use Rattle.std.proofs.Common.{ap}
use Rattle.header.specs.declared.head.Head.{Head}
use Rattle.header.specs.OrderLaws.{KeeperFacts, lawful_keeper_facts, facts_lawful_keeper}
use Rattle.header.specs.Head.{lawful_head, same_head}
use Rattle.header.specs.Passing.{passed, passes}
use Rattle.header.specs.TermsLaws.{TermsFacts, lawful_terms_facts, facts_lawful_terms}
use Rattle.header.specs.ToldLaws.{same_told_equal, equal_same_told}

pub record HeadFacts (h : Head) : Type 0 where
  pub of_terms : TermsFacts h.told h.stamp h.length
  pub of_keeper : KeeperFacts h.told.order h.keeper

pub lawful_head_facts : (h : Head) → lawful_head h ≡ true → HeadFacts h
unfolding lawful_head
lawful_head_facts h e = search (passed, lawful_terms_facts, lawful_keeper_facts)

pub facts_lawful_head : (h : Head) → HeadFacts h → lawful_head h ≡ true
unfolding lawful_head
facts_lawful_head h facts =
    let terms = facts_lawful_terms h.told h.stamp h.length facts.of_terms in
    rw (terms.0, facts_lawful_keeper h.told.order h.keeper facts.of_keeper, terms.2) terms.1

pub same_head_equal : (a b : Head) → same_head a b ≡ true → a ≡ b
unfolding same_head
same_head_equal a b e =
    let told : a.told ≡ b.told = search (passed, same_told_equal) in
    let keeper : a.keeper ≡ b.keeper = search passed in
    let stamp : a.stamp ≡ b.stamp = search passed in
    let length : a.length ≡ b.length = search passed in
    λ i. record { told = told i; keeper = keeper i; stamp = stamp i; length = length i }

pub equal_same_head : (a b : Head) → a ≡ b → same_head a b ≡ true
unfolding same_head
equal_same_head a b e =
    simp (passes, equal_same_told a.told b.told (ap (λ (h : Head). h.told) e), ap (λ (h : Head). h.keeper) e, ap (λ (h : Head). h.stamp) e, ap (λ (h : Head). h.length) e)
