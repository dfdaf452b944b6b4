-- `block::bounds::within` meets its contract: the largest word tells of all of them.
-- Assumes nothing.
use Rattle.std.proofs.Common.{◌≡◌, max, rules, fold}
use Rattle.block.specs.AtMostLaws.{largest_at_most}
use Rattle.block.proofs.bounds.within.Goals as goal

pub returns : goal.returns
returns c =
    let found : c.fold.result ≡ fold (λ m w. max w m) 0 c.args.words.now = search rules in
    rw found (largest_at_most c.args.top c.args.words.now)
