-- `trials::all_sets` meets its contract: there are as many sets as the binomial says.
-- Assumes nothing.
use Rattle.std.proofs.Common.{ℕ, ◌+◌, sym, ap, ◌∙◌, arith}
use Rattle.trials.proofs.Left.{usable_many_lem}
use Rattle.trials.specs.Sets.{choose, length-sets}
use Rattle.trials.proofs.all_sets.Goals as goal

pub returns : goal.returns
returns c = c.choose.ensures.0 ∙ sym (length-sets _ (c.args.t + 1) ∙ ap (λ (m : ℕ). choose m (c.args.t + 1)) (sym (c.count.ensures ∙ usable_many_lem c.args.usable.bits (omega arith))))
