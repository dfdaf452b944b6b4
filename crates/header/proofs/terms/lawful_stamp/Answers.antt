-- `header::terms::lawful_stamp` meets its contract: that a stamp is at most 4,294,967,295 its type says.
-- Assumes nothing.
use Rattle.std.proofs.Common.{arith, le-leb}
use mathlib.Core.Bool.{and-true}
use Rattle.header.proofs.terms.lawful_stamp.Goals as goal

pub returns : goal.returns
returns c = rw (le-leb c.args.stamp 4294967295 (omega arith), and-true)
