-- "Any two results allowed by one promise are proved the same", of both calls of a move as C has them.
-- Assumes nothing.
use Rattle.std.specs.Prelude.{ℕ, ◌≡◌, List}
use Rattle.algebra.specs.Field.{Ops}
use Rattle.moving.specs.declared.terms.Move.{Move}
use Rattle.moving.specs.Cutting.{MoveCutDone}
use Rattle.weighing.specs.Weighing.{WeighDone}
use Rattle.exports.specs.declared.hosts.MoveCutResult.{MoveCutResult}
use Rattle.exports.specs.declared.hosts.MoveWeighResult.{MoveWeighResult}
use Rattle.exports.specs.Move.{cut_as, weighed_as}
use Rattle.moved.proofs.SameMoves.{move_cut_same, move_weigh_same}

pub cs_move_cut_same : {O : Ops} {m : Move} {keeper : ℕ} {letter random tray left left' : List ℕ} {result result' : MoveCutResult}
    → MoveCutDone O m keeper letter random tray (cut_as result) left → MoveCutDone O m keeper letter random tray (cut_as result') left' → (result ≡ result') × (left ≡ left')
cs_move_cut_same {result = result} {result'} D D' =
    let one = move_cut_same D D' in
    let same : cut_as result ≡ cut_as result' = one.0 in
    (λ i. record { number = (same i).number; place = (same i).place }, one.1)

pub cs_move_weigh_same : {O : Ops} {m : Move} {keepers : List ℕ} {keeper : ℕ} {letters slot left left' : List ℕ} {result result' : MoveWeighResult}
    → WeighDone O m keepers keeper letters slot (weighed_as result) left → WeighDone O m keepers keeper letters slot (weighed_as result') left' → (result ≡ result') × (left ≡ left')
cs_move_weigh_same {result = result} {result'} D D' =
    let one = move_weigh_same D D' in
    let same : weighed_as result ≡ weighed_as result' = one.0 in
    (λ i. record { number = (same i).number; letter = (same i).letter; place = (same i).place }, one.1)
