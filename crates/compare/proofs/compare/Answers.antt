-- `compare::compare` meets its contract: a refusal, too short a list, or the places that the parts found have.
-- Assumes nothing.
use Rattle.std.proofs.Common.{◌≡◌, sym, ◌∙◌, arith, rules}
use Rattle.compare.proofs.Comparing.{trays_have_parts, found_size, found_within, found_few, found_below, words_are, laid_are, count_is}
use Rattle.refusals.specs.Numbers.{code, code_some}
use Rattle.compare.specs.Compare.{compared, compared_of, refused, short, told}
use Rattle.compare.proofs.CompareLaws.{compare_facts}
use Rattle.compare.proofs.PartLaws.{beyond_enough, beyond_all}
use Rattle.compare.proofs.compare.Goals as goal

pub returns-in_err-judge : goal.returns-in_err-judge
returns-in_err-judge c =
    let refusal = c.in_err-judge.field-0.0 in
    let is : compared_of c.from_residual.result ≡ compared (code refusal) 0 = search rules in
    rw (is, c.in_err-judge.ensures) (refused (λ e. code_some refusal (c.in_err-judge.ensures ∙ e)))

pub overflow_mul-m : goal.overflow_mul-m
overflow_mul-m c =
    let allowed = sym c.in_ok-judge.ensures in
    omega (arith, compare_facts _ _ _ allowed)

pub look-found-requires : goal.look-found-requires
look-found-requires c =
    let allowed = sym c.in_ok-judge.ensures in
    let facts = compare_facts _ _ _ allowed in
    record { have_parts = trays_have_parts facts; room = omega (arith, facts) }

pub slice_bounds-parts-end : goal.slice_bounds-parts-end
slice_bounds-parts-end c = found_within c.args.o c.look-found.ensures

pub slice_bounds-too_many-end : goal.slice_bounds-too_many-end
slice_bounds-too_many-end c = found_size c.args.o c.look-found.ensures

pub too_many-requires : goal.too_many-requires
too_many-requires c =
    let allowed = sym c.in_ok-judge.ensures in
    let start = c.args in
    let looked = c.look-found.ensures in
    let facts = compare_facts _ _ _ allowed in
    record { have_parts = trays_have_parts facts; parts_below = found_below start.o looked; few = omega (arith, facts, found_few start.o looked) }

pub returns-in-Some : goal.returns-in-Some
returns-in-Some c =
    let allowed = sym c.in_ok-judge.ensures in
    let many = words_are c.args.o c.look-found.ensures in
    let too = c.in-Some.ensures in
    rw (too.0 ∙ (beyond_all _ _ too.1 ∙ many)) (short allowed (rw many at too.1))

pub slice_bounds-parts-end-2 : goal.slice_bounds-parts-end-2
slice_bounds-parts-end-2 c = found_within c.args.o c.look-found.ensures

pub slice_bounds-put-end : goal.slice_bounds-put-end
slice_bounds-put-end c = found_size c.args.o c.look-found.ensures

pub put-requires : goal.put-requires
put-requires c =
    let allowed = sym c.in_ok-judge.ensures in
    let start = c.args in
    let looked = c.look-found.ensures in
    let facts = compare_facts _ _ _ allowed in
    let enough = beyond_enough _ _ c.in_default.ensures in
    record { have_parts = trays_have_parts facts; parts_below = found_below start.o looked; room = enough }

pub returns : goal.returns
returns c =
    let allowed = sym c.in_ok-judge.ensures in
    let start = c.args in
    let looked = c.look-found.ensures in
    let many = words_are start.o looked in
    let enough = beyond_enough _ _ c.in_default.ensures in
    rw (count_is start.o looked c.put.ensures, laid_are start.o looked c.put.ensures) (told allowed (rw many at enough))
