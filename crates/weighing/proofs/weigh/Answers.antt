-- `weighing::weigh` meets its contract: what is told and lent is judged first, and then the sub-letters.
-- Assumes nothing.
use Rattle.std.proofs.Common.{◌≡◌, sym, ◌∙◌, rules}
use Rattle.refusals.specs.Numbers.{code, code_some}
use Rattle.sub_letters.specs.Judging.{only, weighing_of}
use Rattle.sub_letters.specs.JudgingLaws.{weigh_right}
use Rattle.weighing.specs.WeighingLaws.{weigh_refused}
use Rattle.weighing.proofs.weigh.Goals as goal

pub returns-in_err-judge_told : goal.returns-in_err-judge_told
returns-in_err-judge_told c =
    let refusal = c.in_err-judge_told.field-0.0 in
    let is : weighing_of c.from_residual.result ≡ only (code refusal) = search rules in
    weigh_refused _ _ _ _ _ c.in_err-judge_told.ensures (code_some refusal) is

pub words_of-told-requires : goal.words_of-told-requires
words_of-told-requires c =
    let right = weigh_right _ _ _ _ _ (sym c.in_ok-judge_told.ensures) in
    record { few = right.lent.few; below = right.small }

pub froms_of-froms-requires : goal.froms_of-froms-requires
froms_of-froms-requires c = (weigh_right _ _ _ _ _ (sym c.in_ok-judge_told.ensures)).lent

pub weigh_told-requires : goal.weigh_told-requires
weigh_told-requires c =
    record {
      right = rw c.words_of-told.ensures (sym c.in_ok-judge_told.ensures);
      named = c.froms_of-froms.ensures ∙ rw c.words_of-told.ensures;
    }

pub returns : goal.returns
returns c = rw c.words_of-told.ensures at c.weigh_told.ensures
