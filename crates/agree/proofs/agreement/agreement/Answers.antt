-- `agree::agreement::agreement` meets its contract: before each turn the set has kept step so far. The measure is the words left.
-- Assumes nothing.
use Rattle.std.proofs.Common.{ℕ, ◌<◌, ◌≤◌, ◌≡◌, refl, ap, ◌∙◌, arith}
use Rattle.std.specs.Int.Count.{ones}
use Rattle.agree.specs.Agreement.{needed}
use Rattle.agree.specs.KeptLaws.{kept_start, kept_in_step, kept_narrowed, found_none, found_kept}
use Rattle.algebra.specs.Agreement.{need}
use Rattle.field.proofs.Laws.{mod257_field}
use Rattle.lists.specs.KeeperSet.{member}
use Rattle.lists.specs.KeeperSetLaws.{ones-member}
use Rattle.search.specs.Base.{keeper_points}
use Rattle.agree.proofs.agreement.agreement.Goals as goal

-- what is needed of a set's keepers, from the count of its bits
needed_is : (t f usable : ℕ) {n m : ℕ} → usable < 65536 → m ≡ ones usable → n ≡ need m t f → n ≡ needed t f 16 (member usable)
needed_is t f usable h s e = rw s at e ∙ ap (λ (m : ℕ). need m t f) (ones-member 16 usable h)

pub words-init : goal.words-init
words-init c = (omega arith, kept_start _ _ _ _ _ _ c.args.usable.bits (omega arith) c.requires.enough)

pub in_step-i-requires-clause-enough : goal.in_step-i-requires-clause-enough
in_step-i-requires-clause-enough c = let kept = c.words.invariant.1 in omega (arith, ones-member 16 c.words.set.bits kept.below, kept.enough)

pub in_step-i-requires-clause-bounds : goal.in_step-i-requires-clause-bounds
in_step-i-requires-clause-bounds c = (omega arith, omega arith)

pub returns-then-i-l-clause-many : goal.returns-then-i-l-clause-many
returns-then-i-l-clause-many c = let kept = c.words.invariant.1 in omega (arith, ones-member 16 c.words.set.bits kept.below, kept.enough)

pub returns-then-i-l-clause-found : goal.returns-then-i-l-clause-found
returns-then-i-l-clause-found c = found_kept (kept_in_step c.words.invariant.1 c.in_step-i.ensures) c.if-i-l.true

pub narrowed-requires-clause-needed_there : goal.narrowed-requires-clause-needed_there
narrowed-requires-clause-needed_there c =
    let count_is = needed_is c.args.t c.args.f c.args.usable.bits (omega arith) c.count.ensures c.need_of-needed.ensures in
    let kept = c.words.invariant.1 in
    omega (arith, ones-member 16 c.words.set.bits kept.below, kept.enough)

pub returns-in_err-set-clause-found : goal.returns-in_err-set-clause-found
returns-in_err-set-clause-found c =
    let count_is = needed_is c.args.t c.args.f c.args.usable.bits (omega arith) c.count.ensures c.need_of-needed.ensures in
    rw c.from_residual.ensures (found_none (kept_in_step c.words.invariant.1 c.in_step-i.ensures) (omega arith) count_is c.in_err-set.ensures.narrows refl)

pub words-preserved : goal.words-preserved
unfolding ones
words-preserved c =
    let count_is = needed_is c.args.t c.args.f c.args.usable.bits (omega arith) c.count.ensures c.need_of-needed.ensures in
    let kept = kept_in_step c.words.invariant.1 c.in_step-i.ensures in
    let many = c.in_ok-set.ensures.many in (
      omega arith,
      kept_narrowed kept (omega arith) count_is c.in_ok-set.ensures.narrows mod257_field keeper_points
          (λ empty. let none : c.need_of-needed.result ≤ 0 = rw empty at many in omega arith),
    )

pub returns-clause-many : goal.returns-clause-many
returns-clause-many c = let kept = c.words.invariant.1 in omega (arith, ones-member 16 c.words.set.bits kept.below, kept.enough)

pub returns-clause-found : goal.returns-clause-found
returns-clause-found c = found_kept c.words.invariant.1 (omega arith)
