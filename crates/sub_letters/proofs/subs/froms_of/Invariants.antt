-- `sub_letters::subs::froms_of` meets its contract: the words are filled from the front with what the sub-letters name.
-- Assumes nothing.
use Rattle.lists.specs.Filling.{Filling}
use Rattle.sub_letters.specs.Subs.{from_at}
use Rattle.sub_letters.proofs.subs.froms_of.Given as goal

abbrev pub invariant-loop-k : goal.invariant-loop-k
invariant-loop-k l = Filling (λ j. from_at l.letters j 0) l.initial.froms l.k l.froms
