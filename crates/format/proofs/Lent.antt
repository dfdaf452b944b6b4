-- A list that is filled from its front: the part after what is done was lent, and comes back.
-- Assumes nothing.
use Prim.Native.Nat.{ℕ, ◌+◌}
use mathlib.Core.Path.{◌≡◌, sym}
use mathlib.Core.List.{List, ◌++◌, append_assoc}
use lib.ListN.{length, take, drop}
use lib.Seq.{take_at, drop_at, drop-drop}

pub part_back : (done row words : List ℕ) (n k : ℕ) → length done ≡ n
    → let now = done ++ drop n row in take n now ++ (words ++ drop k (drop n now)) ≡ (done ++ words) ++ drop (n + k) row
part_back done row words n k size =
    rw (take_at done (drop n row) n size, drop_at done (drop n row) n size, drop-drop)
    (sym (append_assoc done words (drop (n + k) row)))
