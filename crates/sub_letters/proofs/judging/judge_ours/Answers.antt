-- `sub_letters::judging::judge_ours` meets its contract: what block 0 says, against what was told.
-- Assumes nothing.
use Rattle.std.proofs.Common.{◌≡◌, ◌∙◌, arith, add-one}
use Rattle.header.specs.Equal.{head_eq}
use Rattle.header.specs.Head.{same_head}
use Rattle.sub_letters.specs.SubLaws.{slot_size}
use Rattle.sub_letters.specs.Subs.{sub_head}
use Rattle.tray.specs.Tray.{head_for}
use Rattle.sub_letters.proofs.judging.judge_ours.Goals as goal

pub block_at-requires : goal.block_at-requires
block_at-requires c = (slot_size c.slot_of.ensures c.requires, omega arith)

pub returns-then-eq : goal.returns-then-eq
returns-then-eq c =
    let matched : c.eq.result ≡ same_head (sub_head c.args.letters.now c.args.k) (head_for c.args.m.told c.args.m.stamp c.args.m.length c.args.keeper) =
    head_eq c.head_of-said.result c.head_for.result c.eq.result c.eq.ensures
    ∙ rw (c.head_for.ensures, c.terms.ensures, c.head_of-said.ensures, c.block_at.ensures.0, c.slot_of.ensures, add-one) in
    rw (← matched, c.if-eq.true)

pub returns : goal.returns
returns c =
    let matched : c.eq.result ≡ same_head (sub_head c.args.letters.now c.args.k) (head_for c.args.m.told c.args.m.stamp c.args.m.length c.args.keeper) =
    head_eq c.head_of-said.result c.head_for.result c.eq.result c.eq.ensures
    ∙ rw (c.head_for.ensures, c.terms.ensures, c.head_of-said.ensures, c.block_at.ensures.0, c.slot_of.ensures, add-one) in
    rw (← matched, c.if-eq.false)
