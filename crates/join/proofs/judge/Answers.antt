-- `join::judge` meets its contract: each return is a case of the outcome.
-- Assumes nothing.
use Rattle.std.proofs.Common.{ℕ, ◌<◌, ◌≤◌, ◌≡◌, ◌∙◌, true, List, length, arith}
use Rattle.std.specs.Int.Count.{ones}
use Rattle.agree.specs.Kept.{Agreed}
use Rattle.agree.specs.Rows.{Rows, row_word_lt}
use Rattle.agree.specs.SizeLaws.{agreed_size}
use Rattle.field.proofs.Laws.{mod257_field}
use Rattle.field.specs.Modulo.{mod257}
use Rattle.join.specs.Judged.{least_needed, few_judged, apart_judged, agreed_judged}
use Rattle.join.specs.Lowest.{enough_agreed, hunted_agreed}
use Rattle.lists.specs.Count.{count}
use Rattle.lists.specs.From.{from}
use Rattle.lists.specs.KeeperSet.{member}
use Rattle.lists.specs.KeeperSetLaws.{ones-member}
use Rattle.weigh.specs.Weigh.{row_word}
use Rattle.join.proofs.judge.Goals as goal

-- the words of rows are field words
words_lt : {rows : List ℕ} (usable l : ℕ) → Rows rows → (x : ℕ) → 1 ≤ x → x ≤ 16 → member usable x ≡ true → (i : ℕ) → i < l → row_word rows x i < 257
words_lt usable l r x least most u i h = row_word_lt r x i

-- how many keepers are usable
size : (usable : ℕ) → usable < 65536 → {m : ℕ} → m ≡ ones usable → m ≡ count (member usable) (from 1 16)
size usable fits e = e ∙ ones-member 16 usable fits

pub returns-then-m-t : goal.returns-then-m-t
returns-then-m-t c = few_judged (size c.args.usable.bits (omega arith) c.count-m.ensures) c.need_of-need.ensures c.if-m-t.true

pub agreed-requires-clause-enough : goal.agreed-requires-clause-enough
agreed-requires-clause-enough c = omega (arith, size c.args.usable.bits (omega arith) c.count-m.ensures)

pub agreed-requires-clause-need_is : goal.agreed-requires-clause-need_is
agreed-requires-clause-need_is c =
    least_needed c.args.t c.args.f 16 (member c.args.usable.bits) (size c.args.usable.bits (omega arith) c.count-m.ensures) c.need_of-need.ensures

pub returns-in_default : goal.returns-in_default
returns-in_default c =
    apart_judged (size c.args.usable.bits (omega arith) c.count-m.ensures) c.need_of-need.ensures c.if-m-t.false c.in_default.ensures c.all_sets.ensures

pub reveal-requires-clause-enough : goal.reveal-requires-clause-enough
reveal-requires-clause-enough c = agreed_size c.in-Some.ensures

pub trials_within-requires-clause-enough : goal.trials_within-requires-clause-enough
trials_within-requires-clause-enough c = enough_agreed mod257_field (omega arith) (words_lt _ _ c.requires.rows) c.in-Some.ensures

pub returns : goal.returns
returns c =
    let agreed : Agreed mod257 c.args.t c.args.f 16 (member c.args.usable.bits) (row_word c.args.rows.now) (length c.args.room.now) c.in-Some.set.bits = c.in-Some.ensures in
    agreed_judged (size c.args.usable.bits (omega arith) c.count-m.ensures) c.need_of-need.ensures agreed
    (c.reveal.ensures c.args.f (member c.args.usable.bits) agreed.polynomials agreed.reaches agreed.agree)
    (c.trials_within.ensures ∙ hunted_agreed mod257_field (omega arith) (words_lt _ _ c.requires.rows) agreed)
