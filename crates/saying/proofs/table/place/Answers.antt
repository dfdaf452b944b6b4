-- `saying::table::place` meets its contract: one line a turn, none of those passed is the word.
-- Assumes nothing.
use Rattle.std.proofs.Common.{refl, arith, add-one, ◌∙◌, sym, below_more}
use Rattle.std.proofs.lemmas.Bool.Decides.{Decides-eqb}
use Rattle.std.proofs.lemmas.Slice.Eq.{slice_eq-Decides}
use Rattle.std.proofs.lemmas.Bool.{false≢true}
use Rattle.saying.specs.Table.{rest_at}
use Rattle.saying.proofs.table.place.Goals as goal

pub loop-number-init : goal.loop-number-init
unfolding rest_at
loop-number-init c = (refl, λ k h _. omega arith)

pub loop-number-preserved : goal.loop-number-preserved
unfolding rest_at
loop-number-preserved c =
    let here = c.loop-number.invariant in
    let same = slice_eq-Decides Decides-eqb c.line.result.now c.args.word.now _ c.eq.ensures in
    (c.rest-left.ensures ∙ rw (here.0, add-one) refl, below_more _ _ here.1 (λ e. false≢true (sym c.if-eq.false ∙ same.1 (rw (c.line.ensures, here.0) e))))
