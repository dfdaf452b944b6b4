-- "Any two results allowed by one promise are proved the same", of the calls for C whose result is a struct of C's. `cs_cut` and `cs_fetch`
-- promise what `cut_same` and `fetch_number_same` speak of as it is.
-- Assumes nothing.
use Rattle.std.specs.Prelude.{ℕ, ◌≡◌, List}
use Rattle.std.proofs.Common.{sym, ◌∙◌}
use Rattle.algebra.specs.Field.{Ops}
use Rattle.header.specs.declared.order.Order.{Order}
use Rattle.header.specs.declared.told.Told.{Told}
use Rattle.format.specs.Reading.{read_of}
use Rattle.cut.specs.LetterField.{LetterField}
use Rattle.join.specs.Join.{JoinDone}
use Rattle.desk.specs.Desk.{StoreDone}
use Rattle.pick.specs.Pick.{PickDone}
use Rattle.compare.specs.Compare.{CompareDone}
use Rattle.exports.specs.declared.comparing.CompareResult.{CompareResult}
use Rattle.exports.specs.declared.joining.JoinResult.{JoinResult}
use Rattle.exports.specs.declared.keeping.StoreResult.{StoreResult}
use Rattle.exports.specs.declared.picking.PickResult.{PickResult}
use Rattle.exports.specs.declared.reading.ReadResult.{ReadResult}
use Rattle.exports.specs.Compare.{compared_as}
use Rattle.exports.specs.Join.{joined_as}
use Rattle.exports.specs.Pick.{picked_as}
use Rattle.exports.specs.Read.{read_result}
use Rattle.exports.specs.Store.{stored_as}
use Rattle.demands.proofs.Same.{join_same, store_same, pick_same, compare_same}

pub cs_read_same : (slot : List ℕ) {result result' : ReadResult} → result ≡ read_result (read_of slot) → result' ≡ read_result (read_of slot) → result ≡ result'
cs_read_same slot e e' = e ∙ sym e'

pub cs_join_same : {O : Ops} → LetterField O → {told : Told} {stamp l : ℕ} {tray room left left' : List ℕ} {result result' : JoinResult}
    → JoinDone O told stamp l tray room (joined_as result) left → JoinDone O told stamp l tray room (joined_as result') left' → (result ≡ result') × (left ≡ left')
cs_join_same F {result = result} {result'} D D' =
    let one = join_same F D D' in
    let same : joined_as result ≡ joined_as result' = one.0 in
    (λ i. record { number = (same i).number; usable = (same i).usable; need = (same i).need; set = (same i).set; trials = (same i).trials }, one.1)

pub cs_store_same : {told : Told} {keeper : ℕ} {held letter left left' : List ℕ} {result result' : StoreResult}
    → StoreDone told keeper held letter (stored_as result) left → StoreDone told keeper held letter (stored_as result') left' → (result ≡ result') × (left ≡ left')
cs_store_same {result = result} {result'} D D' =
    let one = store_same D D' in
    let same : stored_as result ≡ stored_as result' = one.0 in
    (λ i. record { number = (same i).number; place = (same i).place }, one.1)

pub cs_pick_same : {O : Ops} → LetterField O → {told : Told} {tray : List ℕ} {result result' : PickResult}
    → PickDone O told tray (picked_as result) → PickDone O told tray (picked_as result') → result ≡ result'
cs_pick_same F {result = result} {result'} D D' =
    let same : picked_as result ≡ picked_as result' = pick_same F D D' in
    λ i. record { number = (same i).number; stamp = (same i).stamp; length = (same i).length }

pub cs_compare_same : {order : Order} {first second : List ℕ} {list left left' : List (List ℕ)} {result result' : CompareResult}
    → CompareDone order first second list (compared_as result) left → CompareDone order first second list (compared_as result') left' → (result ≡ result') × (left ≡ left')
cs_compare_same {result = result} {result'} D D' =
    let one = compare_same D D' in
    let same : compared_as result ≡ compared_as result' = one.0 in
    (λ i. record { number = (same i).number; count = (same i).count }, one.1)
