-- `moving::cutting::cut` meets its contract: what is not refused has all that filling the tray wants, and a refusal leaves it.
-- Assumes nothing.
use Rattle.std.proofs.Common.{◌≡◌, Err, refl, sym, ap, ◌∙◌, rules}
use Rattle.moving.specs.Cutting.{Cutting, cutting_of}
use Rattle.moving.specs.CuttingLaws.{done_refused, judged_number, done_filled, done_judged}
use Rattle.refusals.specs.Numbers.{code, code_some}
use Rattle.moving.proofs.cutting.cut.Goals as goal

pub returns-in_err-judge_told : goal.returns-in_err-judge_told
returns-in_err-judge_told c =
    let is : cutting_of c.from_residual.result ≡ record { number = code c.in_err-judge_told.field-0.0; place = 0 } = search rules in
    rw is (done_refused _ _ _ _ _ c.in_err-judge_told.ensures (code_some _))

pub returns-in_err-judge_letter : goal.returns-in_err-judge_letter
returns-in_err-judge_letter c =
    let is : c.from_residual-in_err-judge_letter.result ≡ Err c.in_err-judge_letter.field-0.0 = search rules in
    rw is
    (done_judged _ _ _ _ _ c.in_ok-judge_told.ensures refl
    (ap (λ (answer : Cutting). answer.number) c.in_err-judge_letter.ensures)
    (ap (λ (answer : Cutting). answer.place) c.in_err-judge_letter.ensures)
    (code_some _))

pub fill-requires : goal.fill-requires
fill-requires c =
    judged_number _ _ _ _ _ c.in_ok-judge_told.ensures refl
    ∙ sym (ap (λ (answer : Cutting). answer.number) c.in_ok-judge_letter.ensures)

pub returns : goal.returns
returns c =
    done_filled _ _ _ _ _ c.in_ok-judge_told.ensures refl
    (ap (λ (answer : Cutting). answer.number) c.in_ok-judge_letter.ensures)
    (ap (λ (answer : Cutting). answer.place) c.in_ok-judge_letter.ensures)
    refl c.fill.ensures
