-- What it says that nothing is wrong with what a move is told.
-- Assumes nothing.
use Rattle.std.specs.Prelude.{◌≡◌, Bool, true, ◌&&◌}
use Rattle.header.specs.Order.{lawful_order}
use Rattle.header.specs.OrderLaws.{lawful_order_facts}
use Rattle.header.specs.Passing.{passing, and_left, and_right}
use Rattle.header.specs.TermsLaws.{terms_facts}
use Rattle.moving.specs.declared.terms.Move.{Move}
use Rattle.moving.specs.Move.{move_number}
use Rattle.moving.specs.Lent.{MoveTerms}

pub move_terms : (m : Move) (keepers : Bool) → move_number m keepers ≡ 0 → MoveTerms m × (keepers ≡ true)
unfolding move_number
move_terms m keepers e =
    let right = passing (lawful_order m.old && keepers) _ 0 e in (
      record {
        of_old = lawful_order_facts m.old (and_left (lawful_order m.old) keepers right.0);
        of_terms = terms_facts m.told m.stamp m.length right.1;
      },
      and_right (lawful_order m.old) keepers right.0,
    )
