-- `trials::binomials::choose` meets its contract: the code's table is the one of the definition.
-- Assumes nothing.
use Rattle.trials.specs.Binomials.{binomials}
use Rattle.trials.proofs.BinomialsLaws.{binomial_at, entry_most}
use Rattle.trials.proofs.binomials.choose.Goals as goal

pub returns : goal.returns
unfolding binomials
returns c = (binomial_at _ _ c.requires.m_small c.requires.k_small, entry_most _ _ c.requires.m_small c.requires.k_small)
