-- What it says that what is told is lawful, and that a letter is of it.
-- Assumes nothing.
use Rattle.std.specs.Prelude.{◌≤◌, ◌≡◌, true}
use Rattle.std.proofs.Common.{ap}
use Rattle.header.specs.declared.told.Told.{Told}
use Rattle.header.specs.OrderLaws.{OrderFacts, lawful_order_facts, facts_lawful_order, same_order_equal, equal_same_order}
use Rattle.header.specs.Passing.{passed, passes}
use Rattle.header.specs.Told.{lawful_told, same_told}

pub record ToldFacts (told : Told) : Type 0 where
  pub of_order : OrderFacts told.order
  pub key_most : told.key ≤ 255

pub lawful_told_facts : (told : Told) → lawful_told told ≡ true → ToldFacts told
unfolding lawful_told
lawful_told_facts told e = search (passed, lawful_order_facts)

pub facts_lawful_told : (told : Told) → ToldFacts told → lawful_told told ≡ true
unfolding lawful_told
facts_lawful_told told h = simp (passes, facts_lawful_order told.order h.of_order, h.key_most)

pub same_told_equal : (a b : Told) → same_told a b ≡ true → a ≡ b
unfolding same_told
same_told_equal a b e =
    let order : a.order ≡ b.order = search (passed, same_order_equal) in
    let key : a.key ≡ b.key = search passed in
    λ i. record { order = order i; key = key i }

pub equal_same_told : (a b : Told) → a ≡ b → same_told a b ≡ true
unfolding same_told
equal_same_told a b e =
    simp (passes, equal_same_order a.order b.order (ap (λ (told : Told). told.order) e), ap (λ (told : Told). told.key) e)
