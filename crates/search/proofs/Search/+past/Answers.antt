-- `search::Search::past` meets its contract: a keeper that is not of the set is passed by; one of the set is included, and where nothing is found
-- with it, it is skipped.
-- Assumes nothing.
use Rattle.std.proofs.Common.{ℕ, ◌+◌, ◌^◌, ◌<◌, ◌≡◌, refl, sym, ◌∙◌, true, arith, rules}
use Rattle.lists.specs.KeeperSet.{member}
use Rattle.field.specs.Modulo.{mod257}
use Rattle.search.specs.Search.{word, Searched}
use Rattle.search.specs.SearchLaws.{search_done, search_past, search_outside, Missed, search_stuck, search_skipped, sought_joined}
use Rattle.search.proofs.Search.+past.Goals as goal

-- nothing was found with the next keeper in the base
missed : (among : ℕ) {t need base next skips joined : ℕ} (y : ℕ → ℕ) → next < 16 → base < 2 ^ next → member among (next + 1) ≡ true → joined ≡ base + 2 ^ next
    → Searched mod257 t 16 need (member among) y joined (next + 1) skips 0 → Missed mod257 t 16 need (member among) y base next skips
missed among y within before of e searched = record { within = within; before = before; of = of; searched = rw e at searched }

pub returns-then-lack-eq0-clause-searched : goal.returns-then-lack-eq0-clause-searched
returns-then-lack-eq0-clause-searched t c = search_done c.tried.ensures.finds

pub returns-then-next-ge16-clause-searched : goal.returns-then-next-ge16-clause-searched
returns-then-next-ge16-clause-searched t c = search_past (omega arith) (omega arith)

pub returns-then-not-has-clause-searched : goal.returns-then-not-has-clause-searched
returns-then-not-has-clause-searched t c = search_outside (sym c.has.ensures ∙ c.if-not-has.true) c.past.ensures.searched

pub past-requires-2 : goal.past-requires-2
past-requires-2 t c =
    let sought = sought_joined c.requires c.if-next-ge16.false (2 ^ c.args.next) refl c.if-lack-eq0.false in
    rw c.with.ensures (search rules)

pub returns-then-skips-eq0-clause-searched : goal.returns-then-skips-eq0-clause-searched
returns-then-skips-eq0-clause-searched t c =
    search_stuck
    (missed c.args.self.now.among.bits (word c.args.self.now.words) c.if-next-ge16.false c.requires.before (sym c.has.ensures ∙ c.if-not-has.false) c.with.ensures c.in_default.ensures.searched)
    c.if-skips-eq0.true

pub returns-clause-searched : goal.returns-clause-searched
returns-clause-searched t c =
    search_skipped
    (missed c.args.self.now.among.bits (word c.args.self.now.words) c.if-next-ge16.false c.requires.before (sym c.has.ensures ∙ c.if-not-has.false) c.with.ensures c.in_default.ensures.searched)
    c.past-3.ensures.searched
