-- `block::bounds::exchanged_within` meets its contract: the largest word tells of all of them.
-- Assumes nothing.
use Rattle.std.proofs.Common.{ℕ, ◌≡◌, ◌∙◌, arith, max, rules, fold, map, length, get_or, List, ◌<◌}
use Rattle.std.proofs.lemmas.List.{length-map, get_or-map}
use Rattle.std.proofs.lemmas.List.Folds.{fold-map}
use Rattle.std.specs.Int.{w16, swap_bytes}
use Rattle.block.specs.AtMostLaws.{largest_at_most}
use Rattle.block.specs.Words.{exchanged, exchanged_all}
use Rattle.lists.specs.Listed.{listed_is}
use Rattle.block.proofs.bounds.exchanged_within.Goals as goal

swapped : (row : List ℕ) → ((k : ℕ) → get_or row k 0 < 65536) → map (swap_bytes w16) row ≡ exchanged_all row
swapped row small =
    listed_is (λ k. exchanged (get_or row k 0)) (length row) (map (swap_bytes w16) row) (length-map row (swap_bytes w16))
    (λ k h. get_or-map (swap_bytes w16) row k 0 0 h ∙ omega (arith, small k))

pub returns : goal.returns
returns c =
    let row = c.args.row.now in
    let found : c.fold.result ≡ fold (λ m w. max (swap_bytes w16 w) m) 0 row = search rules in
    rw (found, ← swapped row (λ k. omega (arith, c.type_inv.row k)), ← largest_at_most, fold-map (λ m w. max w m) (swap_bytes w16) 0 row)
