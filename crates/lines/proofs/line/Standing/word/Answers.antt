-- `lines::line::Standing::word` meets its contract: each arm has its own word.
-- Assumes nothing.
use Rattle.lines.specs.Lines.{word_of}
use Rattle.lines.specs.Text.{text}
use Rattle.lists.specs.Listed.{listed}
use Rattle.lines.proofs.line.Standing.word.Goals as goal

pub returns-in-Absent-clause-value : goal.returns-in-Absent-clause-value
unfolding word_of text listed
returns-in-Absent-clause-value c = rw c.in-Absent.is

pub returns-in-Present-clause-value : goal.returns-in-Present-clause-value
unfolding word_of text listed
returns-in-Present-clause-value c = rw c.in-Present.is

pub returns-in-Agrees-clause-value : goal.returns-in-Agrees-clause-value
unfolding word_of text listed
returns-in-Agrees-clause-value c = rw c.in-Agrees.is

pub returns-in-Differs-clause-value : goal.returns-in-Differs-clause-value
unfolding word_of text listed
returns-in-Differs-clause-value c = rw c.in-Differs.is
