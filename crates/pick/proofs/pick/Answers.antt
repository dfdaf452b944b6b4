-- `pick::pick` meets its contract: a refusal, or what is found going down the ranks that the slots say.
-- Assumes nothing.
use Rattle.std.proofs.Common.{refl, sym, ◌∙◌, arith, length-take-le}
use Rattle.lists.specs.Zeros.{below_zeros}
use Rattle.pick.specs.Pick.{refused}
use Rattle.pick.specs.RefusalLaws.{pick_facts}
use Rattle.refusals.specs.Numbers.{code_some}
use Rattle.pick.proofs.pick.Goals as goal

pub returns-in-Err : goal.returns-in-Err
returns-in-Err c = rw (c.answer.ensures, c.in-Err.ensures) (refused (λ e. code_some c.in-Err.refusal (c.in-Err.ensures ∙ e)))

pub slice_bounds-ranks-end : goal.slice_bounds-ranks-end
slice_bounds-ranks-end c = omega (arith, pick_facts _ _ (sym c.in_default.ensures))

pub slice_bounds-ranks-end-2 : goal.slice_bounds-ranks-end-2
slice_bounds-ranks-end-2 c = sym (length-take-le _ _ (omega (arith, pick_facts _ _ (sym c.in_default.ensures))))

pub gather-requires-clause-few : goal.gather-requires-clause-few
gather-requires-clause-few c = omega (arith, pick_facts _ _ (sym c.in_default.ensures))

pub gather-requires-clause-slots : goal.gather-requires-clause-slots
gather-requires-clause-slots c = (pick_facts _ _ (sym c.in_default.ensures)).slots

pub gather-requires-clause-of_each : goal.gather-requires-clause-of_each
gather-requires-clause-of_each c = length-take-le _ _ (omega (arith, pick_facts _ _ (sym c.in_default.ensures)))

pub go_down-requires-clause-of_each : goal.go_down-requires-clause-of_each
go_down-requires-clause-of_each c = c.gather.auto.ranks ∙ length-take-le _ _ (omega (arith, pick_facts _ _ (sym c.in_default.ensures)))

pub go_down-requires-clause-rows : goal.go_down-requires-clause-rows
go_down-requires-clause-rows c = record { whole = refl; words = below_zeros 256 15232 }
