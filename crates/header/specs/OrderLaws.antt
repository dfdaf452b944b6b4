-- What it says that an order is lawful, that a keeper is one of its keepers, and that two orders are the same.
-- Assumes nothing.
use Rattle.std.specs.Prelude.{ℕ, ◌+◌, ◌*◌, ◌≤◌, ◌≡◌, true}
use Rattle.std.proofs.Common.{ap}
use Rattle.header.specs.declared.order.Order.{Order}
use Rattle.header.specs.Order.{lawful_order, lawful_keeper, same_order}
use Rattle.header.specs.Passing.{passed, passes}

pub record OrderFacts (o : Order) : Type 0 where
  pub t_least : 1 ≤ o.t
  pub t_most : o.t ≤ 7
  pub f_most : o.f ≤ o.t
  pub n_least : o.t + 4 * o.f + 1 ≤ o.n
  pub n_most : o.n ≤ 16

pub lawful_order_facts : (o : Order) → lawful_order o ≡ true → OrderFacts o
unfolding lawful_order
lawful_order_facts o e = search passed

pub facts_lawful_order : (o : Order) → OrderFacts o → lawful_order o ≡ true
unfolding lawful_order
facts_lawful_order o h = simp (passes, h.t_least, h.t_most, h.f_most, h.n_least, h.n_most)

-- "Keepers are numbered 1..n."
pub record KeeperFacts (o : Order) (keeper : ℕ) : Type 0 where
  pub keeper_least : 1 ≤ keeper
  pub keeper_most : keeper ≤ o.n

pub lawful_keeper_facts : (o : Order) (keeper : ℕ) → lawful_keeper o keeper ≡ true → KeeperFacts o keeper
unfolding lawful_keeper
lawful_keeper_facts o keeper e = search passed

pub facts_lawful_keeper : (o : Order) (keeper : ℕ) → KeeperFacts o keeper → lawful_keeper o keeper ≡ true
unfolding lawful_keeper
facts_lawful_keeper o keeper h = simp (passes, h.keeper_least, h.keeper_most)

pub same_order_equal : (a b : Order) → same_order a b ≡ true → a ≡ b
unfolding same_order
same_order_equal a b e =
    let t : a.t ≡ b.t = search passed in
    let f : a.f ≡ b.f = search passed in
    let n : a.n ≡ b.n = search passed in
    λ i. record { t = t i; f = f i; n = n i }

pub equal_same_order : (a b : Order) → a ≡ b → same_order a b ≡ true
unfolding same_order
equal_same_order a b e = simp (passes, ap (λ (o : Order). o.t) e, ap (λ (o : Order). o.f) e, ap (λ (o : Order). o.n) e)
