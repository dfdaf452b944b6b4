-- What a move is told, once it has been judged: lawful orders, a lawful key, stamp and length.
-- Assumes nothing.
use Rattle.header.specs.OrderLaws.{OrderFacts}
use Rattle.header.specs.TermsLaws.{TermsFacts}
use Rattle.moving.specs.declared.terms.Move.{Move}

pub record MoveTerms (m : Move) : Type 0 where
  pub of_old : OrderFacts m.old
  pub of_terms : TermsFacts m.told m.stamp m.length
