-- What it says that the join refuses nothing that was told or lent.
-- Assumes nothing.
use Rattle.std.specs.Prelude.{ℕ, ◌*◌, ◌≡◌, true, List, length}
use Rattle.algebra.specs.Field.{Ops}
use Rattle.header.specs.declared.told.Told.{Told}
use Rattle.header.specs.Order.{lawful_order}
use Rattle.header.specs.OrderLaws.{facts_lawful_order}
use Rattle.header.specs.TermsLaws.{lawful_terms_facts}
use Rattle.cut.specs.OneCut.{OneCut}
use Rattle.join.specs.Join.{join_refusal}
use Rattle.join.specs.RefusalLaws.{accepted_facts, facts_accepted}

pub not_refused_order : (told : Told) (stamp l : ℕ) (tray room : List ℕ) → join_refusal told stamp l tray room ≡ 0 → lawful_order told.order ≡ true
not_refused_order told stamp l tray room e = facts_lawful_order told.order (accepted_facts told stamp l tray room e).of_terms.of_told.of_order

-- nor what one cut was given, with a tray and room of their lengths
pub cut_not_refused : {O : Ops} {told : Told} {stamp : ℕ} {secret random : List ℕ} → OneCut O told stamp secret random
    → (tray room : List ℕ) → length tray ≡ 2048 * told.order.n → length room ≡ length secret → join_refusal told stamp (length secret) tray room ≡ 0
cut_not_refused {told = told} {stamp} {secret} C tray room s s' =
    facts_accepted told stamp (length secret) tray room (record {
      of_terms = lawful_terms_facts told stamp (length secret) C.told_lawful C.of_words.length_lawful C.stamp_lawful;
      tray_lent = s;
      room_lent = s';
    })
