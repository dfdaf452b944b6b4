-- `pick::groups::next_of` meets its contract: the filter passes the ranks that may come next, and the greatest of them is taken.
-- Assumes nothing.
use Rattle.std.proofs.Common.{◌∙◌, rules}
use Rattle.std.proofs.lemmas.Iterator.{YieldsList-from_slice}
use Rattle.std.proofs.lemmas.Iterator.Consumers.{YieldsList-from_filter, max_from_yields_List}
use borrow.Author.Tests.{tests}
use Rattle.pick.proofs.groups.next_of.Goals as goal

pub returns : goal.returns
returns c =
    c.copied.ensures
    ∙ max_from_yields_List _ _ c.max.ensures.ran (YieldsList-from_filter _ _ (YieldsList-from_slice c.args.ranks.now cc) c.filter.ensures.closure (λ x r q k. search (rules, tests)))
