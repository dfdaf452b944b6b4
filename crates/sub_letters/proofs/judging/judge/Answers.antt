-- `sub_letters::judging::judge` meets its contract: what is said first is the definition's.
-- Assumes nothing.
use Rattle.std.proofs.Common.{◌≡◌, sym, ◌∙◌, Err, length, rules}
use Rattle.refusals.specs.Numbers.{code_some}
use Rattle.sub_letters.specs.FirstLaws.{said_first, first_answered}
use Rattle.sub_letters.specs.Judging.{fault_at, other_at, first_sub, subs_answer, weighing_of}
use Rattle.sub_letters.specs.Subs.{froms_right}
use Rattle.sub_letters.proofs.judging.judge.Goals as goal

pub returns-in_err-judge_each : goal.returns-in_err-judge_each
unfolding subs_answer
returns-in_err-judge_each c =
    let a = c.args in
    let fault = c.in_err-judge_each.field-0.0 in
    let faults : weighing_of c.judge_each.result ≡ first_sub (fault_at a.letters.now) 0 (length a.keepers.now) =
    first_answered (fault_at a.letters.now) _ c.judge_each.ensures (λ k r found. search rules) in
    let is : weighing_of c.from_residual.result ≡ weighing_of (Err fault) = search rules in
    is ∙ rw (← faults, c.in_err-judge_each.was) (sym (said_first _ _ (code_some fault.refusal)))

pub returns-in_err-judge_each-2 : goal.returns-in_err-judge_each-2
unfolding subs_answer
returns-in_err-judge_each-2 c =
    let a = c.args in
    let fault = c.in_err-judge_each-2.field-0.0 in
    let faults : weighing_of c.judge_each.result ≡ first_sub (fault_at a.letters.now) 0 (length a.keepers.now) =
    first_answered (fault_at a.letters.now) _ c.judge_each.ensures (λ k r found. search rules) in
    let others : weighing_of c.judge_each-2.result ≡ first_sub (other_at a.m a.keeper a.letters.now) 0 (length a.keepers.now) =
    first_answered (other_at a.m a.keeper a.letters.now) _ c.judge_each-2.ensures (λ k r found. search rules) in
    let is : weighing_of c.from_residual-in_err-judge_each-2.result ≡ weighing_of (Err fault) = search rules in
    is ∙ rw (← faults, ← others, c.in_ok-judge_each.was, c.in_err-judge_each-2.was) (sym (said_first _ _ (code_some fault.refusal)))

pub returns-then-froms_right : goal.returns-then-froms_right
unfolding subs_answer froms_right
returns-then-froms_right c =
    let a = c.args in
    let faults : weighing_of c.judge_each.result ≡ first_sub (fault_at a.letters.now) 0 (length a.keepers.now) =
    first_answered (fault_at a.letters.now) _ c.judge_each.ensures (λ k r found. search rules) in
    let others : weighing_of c.judge_each-2.result ≡ first_sub (other_at a.m a.keeper a.letters.now) 0 (length a.keepers.now) =
    first_answered (other_at a.m a.keeper a.letters.now) _ c.judge_each-2.ensures (λ k r found. search rules) in
    rw (← faults, ← others, c.in_ok-judge_each.was, c.in_ok-judge_each-2.was, ← c.requires.named, ← c.froms_right.ensures, c.if-froms_right.true)

pub returns-else-froms_right : goal.returns-else-froms_right
unfolding subs_answer froms_right
returns-else-froms_right c =
    let a = c.args in
    let faults : weighing_of c.judge_each.result ≡ first_sub (fault_at a.letters.now) 0 (length a.keepers.now) =
    first_answered (fault_at a.letters.now) _ c.judge_each.ensures (λ k r found. search rules) in
    let others : weighing_of c.judge_each-2.result ≡ first_sub (other_at a.m a.keeper a.letters.now) 0 (length a.keepers.now) =
    first_answered (other_at a.m a.keeper a.letters.now) _ c.judge_each-2.ensures (λ k r found. search rules) in
    rw (← faults, ← others, c.in_ok-judge_each.was, c.in_ok-judge_each-2.was, ← c.requires.named, ← c.froms_right.ensures, c.if-froms_right.false, c.from.ensures)
