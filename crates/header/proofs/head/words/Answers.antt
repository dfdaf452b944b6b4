-- `header::head::words` meets its contract: the numbers of a lawful head fit words, and the bytes of its stamp and length are the definition's.
-- Assumes nothing.
use Rattle.std.proofs.Common.{div-one}
use Rattle.header.specs.Head.{head_words}
use Rattle.header.proofs.head.words.Goals as goal

pub returns : goal.returns
unfolding head_words
returns c =
    rw (
      c.from.ensures,
      c.from-2.ensures,
      c.from-3.ensures,
      c.from-4.ensures,
      c.from-5.ensures,
      c.from-6.ensures,
      c.to_be_bytes-stamp.ensures,
      c.to_be_bytes-length.ensures,
    )
    (simp div-one)
