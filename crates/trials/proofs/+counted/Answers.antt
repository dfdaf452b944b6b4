-- `trials::counted` meets its contract: a keeper that is not usable is passed by, one of the set is included, and another is skipped, with all the
-- sets that it is of.
-- Assumes nothing.
use Rattle.std.proofs.Common.{ℕ, ◌+◌, ◌≡◌, sym, ◌∙◌, Bool, true, arith, rules}
use Rattle.lists.specs.KeeperSet.{member}
use Rattle.trials.specs.Left.{left, Counting, Met}
use Rattle.trials.proofs.Left.{many_most, many_some, one_left, counting_passed, place_passed, counting_included, place_included, counting_skipped, place_skipped, skipped_most}
use Rattle.trials.proofs.Lowest.{place_done}
use Rattle.trials.proofs.+counted.Goals as goal

-- the next keeper is usable, and the set lacks some
met : {usable set lack next many : ℕ} {has : Bool} → Counting usable set lack next many → (lack ≡ 0 → ⊥) → has ≡ member usable (next + 1) → has ≡ true
    → Met usable set lack next many
met counting lacks is of = record { counting = counting; lacks = lacks; of = sym is ∙ of }

pub returns-then-lack-eq0 : goal.returns-then-lack-eq0
returns-then-lack-eq0 t c = place_done _ (left c.args.usable.bits c.args.next) _ c.if-lack-eq0.true

pub has-requires : goal.has-requires
has-requires t c = one_left c.requires c.if-lack-eq0.false

pub counted-requires : goal.counted-requires
counted-requires t c =
    let next = counting_passed c.requires (one_left c.requires c.if-lack-eq0.false) (sym c.has.ensures ∙ c.if-not-has.true) in
    search rules

pub returns-then-not-has : goal.returns-then-not-has
returns-then-not-has t c = c.counted.ensures ∙ place_passed c.requires (one_left c.requires c.if-lack-eq0.false) (sym c.has.ensures ∙ c.if-not-has.true)

pub overflow_sub-many : goal.overflow_sub-many
overflow_sub-many t c = let least = many_some (met c.requires c.if-lack-eq0.false c.has.ensures c.if-not-has.false) in search rules

pub counted-requires-then-has : goal.counted-requires-then-has
counted-requires-then-has t c =
    let next = counting_included (met c.requires c.if-lack-eq0.false c.has.ensures c.if-not-has.false) (sym c.has-2.ensures ∙ c.if-has.true) in
    search rules

pub returns-then-has : goal.returns-then-has
returns-then-has t c =
    c.counted-then-has.ensures ∙ place_included (met c.requires c.if-lack-eq0.false c.has.ensures c.if-not-has.false) (sym c.has-2.ensures ∙ c.if-has.true)

pub overflow_sub-many-2 : goal.overflow_sub-many-2
overflow_sub-many-2 t c = let least = many_some (met c.requires c.if-lack-eq0.false c.has.ensures c.if-not-has.false) in search rules

pub choose-requires-clause-m_small : goal.choose-requires-clause-m_small
choose-requires-clause-m_small t c = omega (arith, many_most c.requires)

pub overflow_sub-many-3 : goal.overflow_sub-many-3
overflow_sub-many-3 t c = let least = many_some (met c.requires c.if-lack-eq0.false c.has.ensures c.if-not-has.false) in search rules

pub counted-requires-2 : goal.counted-requires-2
counted-requires-2 t c =
    let next = counting_skipped (met c.requires c.if-lack-eq0.false c.has.ensures c.if-not-has.false) (sym c.has-2.ensures ∙ c.if-has.false) in
    search rules

pub overflow_add-result : goal.overflow_add-result
overflow_add-result t c =
    let most = skipped_most (met c.requires c.if-lack-eq0.false c.has.ensures c.if-not-has.false) (sym c.has-2.ensures ∙ c.if-has.false) in
    record { fits = omega (arith, c.choose.ensures.1, c.counted-2.ensures) }

pub returns : goal.returns
returns t c =
    rw (c.choose.ensures.0, c.counted-2.ensures)
    (place_skipped (met c.requires c.if-lack-eq0.false c.has.ensures c.if-not-has.false) (sym c.has-2.ensures ∙ c.if-has.false))
