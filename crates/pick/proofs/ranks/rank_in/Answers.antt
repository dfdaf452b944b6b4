-- `pick::ranks::rank_in` meets its contract: whether a letter may have the head decides.
-- Assumes nothing.
use Rattle.std.proofs.Common.{sym, ◌∙◌, arith, length-take-le}
use Rattle.pick.proofs.Said.{may_facts}
use Rattle.pick.proofs.ranks.rank_in.Goals as goal

pub slice_bounds-head_of-end : goal.slice_bounds-head_of-end
slice_bounds-head_of-end c = sym (length-take-le 512 c.args.slot.now (omega arith))

pub rank_of-requires : goal.rank_of-requires
rank_of-requires c = (may_facts _ _ _ (sym c.may_have.ensures ∙ c.if-may_have.true)).length_most
