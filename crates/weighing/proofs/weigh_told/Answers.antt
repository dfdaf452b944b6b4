-- `weighing::weigh_told` meets its contract: where nothing is refused, there is all that weighing wants, and a refusal leaves the slot.
-- Assumes nothing.
use Rattle.std.proofs.Common.{ℕ, List, Err, ◌≡◌, refl, sym, ap, ◌∙◌, length, length-take-le, rules}
use Rattle.lists.specs.Listed.{length-listed}
use Rattle.refusals.specs.Numbers.{code_some}
use Rattle.sub_letters.specs.JudgingLaws.{weigh_right, kept_lawful}
use Rattle.sub_letters.specs.Subs.{froms_of}
use Rattle.sub_letters.specs.Judging.{Weighing, weighing_of}
use Rattle.weighing.specs.WeighingLaws.{weighable, weigh_filled, weigh_judged}
use Rattle.weighing.proofs.weigh_told.Goals as goal

-- the sub-letters name as many old keepers as they are
as_many : (froms letters keepers : List ℕ) → froms ≡ froms_of letters (length keepers) → length froms ≡ length keepers
unfolding froms_of
as_many froms letters keepers named = ap length named ∙ length-listed _ (length keepers)

pub judge-requires : goal.judge-requires
judge-requires c =
    let right = weigh_right _ _ _ _ _ c.requires.right in
    record { terms = right.terms; named = c.requires.named; lent = right.lent }

pub returns-in_err-judge : goal.returns-in_err-judge
returns-in_err-judge c =
    let fault = c.in_err-judge.field-0.0 in
    let is : weighing_of c.from_residual.result ≡ weighing_of (Err fault) = search rules in
    rw is (weigh_judged _ _ _ _ _ c.requires.right c.in_err-judge.ensures (code_some fault.refusal))

pub slice_bounds-row-end : goal.slice_bounds-row-end
slice_bounds-row-end c = (weigh_right _ _ _ _ _ c.requires.right).terms.of_terms.length_most

pub slice_bounds-fill-end : goal.slice_bounds-fill-end
slice_bounds-fill-end c = sym (length-take-le _ _ (weigh_right _ _ _ _ _ c.requires.right).terms.of_terms.length_most)

pub fill-requires : goal.fill-requires
fill-requires c =
    let right = weigh_right _ _ _ _ _ c.requires.right in
    let many = as_many _ _ _ c.requires.named in
    let size = length-take-le _ _ right.terms.of_terms.length_most in
    let none = ap (λ (w : Weighing). w.number) (sym c.in_ok-judge.ensures) in
    record {
      weighable = weighable _ _ _ _ _ _ none right.lent right.terms c.requires.named many size;
      row_length = size;
      head = kept_lawful _ _ _ _ _ right;
      room = right.slot_lent;
    }

pub returns : goal.returns
returns c = weigh_filled _ _ _ _ _ c.requires.right c.in_ok-judge.ensures refl (rw (as_many _ _ _ c.requires.named) at c.fill.ensures)
