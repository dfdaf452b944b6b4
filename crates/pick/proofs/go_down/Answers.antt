-- `pick::go_down` meets its contract, rank by rank.
-- Assumes nothing.
use Rattle.std.proofs.Common.{◌<◌, Some, None, refl, sym, ◌∙◌, true, false, arith}
use Rattle.field.proofs.Laws.{mod257_field}
use Rattle.pick.proofs.Down.{passed_none, passed_joins, passed_more, passed_all}
use Rattle.pick.proofs.Next.{next_of_greatest}
use Rattle.pick.specs.RefusalLaws.{pick_facts}
use Rattle.refusals.specs.Numbers.{code_some}
use Rattle.pick.proofs.go_down.Goals as goal

pub overflow_add-least : goal.overflow_add-least
overflow_add-least c = omega (arith, pick_facts _ _ c.requires.not_refused)

pub overflow_add-least-2 : goal.overflow_add-least-2
overflow_add-least-2 c = omega (arith, pick_facts _ _ c.requires.not_refused)

pub loop-rank-init : goal.loop-rank-init
loop-rank-init c = record { passed = λ next is. passed_none c.requires.ranks c.requires.not_refused is; rows = c.requires.rows; small = omega arith; top_small = omega arith }

pub joined-requires-clause-joinable : goal.joined-requires-clause-joinable
joined-requires-clause-joinable c =
    let next = next_of_greatest (Some c.in-Some.rank) c.requires.of_each c.in-Some.ensures in
    let before = c.loop-rank.invariant.passed c.in-Some.rank next.0 in
    record { terms = before.terms next.1; slots = (pick_facts _ _ c.requires.not_refused).slots }

pub returns-in-Ok : goal.returns-in-Ok
returns-in-Ok c =
    let next = next_of_greatest (Some c.in-Some.rank) c.requires.of_each c.in-Some.ensures in
    let before = c.loop-rank.invariant.passed c.in-Some.rank next.0 in
    rw c.answer.ensures (passed_joins c.requires.ranks c.requires.not_refused before next.1 c.in-Ok.ensures.0)

pub answer-requires : goal.answer-requires
answer-requires c =
    let next = next_of_greatest (Some c.in-Some.rank) c.requires.of_each c.in-Some.ensures in
    let below : c.in-Some.rank < c.loop-rank.bound = (next.0.large next.1).0 in
    omega arith

pub loop-rank-preserved-then-is_first : goal.loop-rank-preserved-then-is_first
loop-rank-preserved-then-is_first c =
    let apart : c.args.told.order.n < 257 = omega (arith, pick_facts _ _ c.requires.not_refused) in
    let next = next_of_greatest (Some c.in-Some.rank) c.requires.of_each c.in-Some.ensures in
    let before = c.loop-rank.invariant.passed c.in-Some.rank next.0 in
    let below : c.in-Some.rank < c.loop-rank.bound = (next.0.large next.1).0 in
    record {
      passed = λ after is.
          passed_more c.requires.ranks c.requires.not_refused before next.1 mod257_field apart c.in-Err.ensures.0 (code_some c.in-Err.tried) is true
          (sym c.is_first.ensures ∙ c.if-is_first.true);
      rows = c.in-Err.ensures.1;
      small = omega arith;
      top_small = omega arith;
    }

pub loop-rank-smaller-then-is_first : goal.loop-rank-smaller-then-is_first
loop-rank-smaller-then-is_first c =
    let next = next_of_greatest (Some c.in-Some.rank) c.requires.of_each c.in-Some.ensures in
    (next.0.large next.1).0

pub loop-rank-preserved : goal.loop-rank-preserved
loop-rank-preserved c =
    let apart : c.args.told.order.n < 257 = omega (arith, pick_facts _ _ c.requires.not_refused) in
    let next = next_of_greatest (Some c.in-Some.rank) c.requires.of_each c.in-Some.ensures in
    let before = c.loop-rank.invariant.passed c.in-Some.rank next.0 in
    let below : c.in-Some.rank < c.loop-rank.bound = (next.0.large next.1).0 in
    record {
      passed = λ after is.
          passed_more c.requires.ranks c.requires.not_refused before next.1 mod257_field apart c.in-Err.ensures.0 (code_some c.in-Err.tried) is false
          (sym c.is_first.ensures ∙ c.if-is_first.false);
      rows = c.in-Err.ensures.1;
      small = omega arith;
      top_small = omega arith;
    }

pub loop-rank-smaller : goal.loop-rank-smaller
loop-rank-smaller c =
    let next = next_of_greatest (Some c.in-Some.rank) c.requires.of_each c.in-Some.ensures in
    (next.0.large next.1).0

pub returns : goal.returns
returns c =
    let next = next_of_greatest None c.requires.of_each c.in_default.ensures in
    rw c.answer-2.ensures (passed_all c.requires.ranks c.requires.not_refused (c.loop-rank.invariant.passed 0 next.0) refl)
