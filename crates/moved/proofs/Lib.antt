-- "Where the old letters came from one cut, the new tray is byte for byte what the cut writes for the same secret"
pub mod TheMove
-- the same through the promises of both calls
pub mod WholeMove
-- demands 2 and 3 of moved letters
pub mod MovedDemands
-- demand 3 of what one old keeper draws
pub mod OneDraws
-- demand 3 of all that new keepers are handed
pub mod HandedSecrecy
-- "Any two results allowed by one promise are proved the same"; "a refused call changes no byte lent to it"; "Equal meaning, equal bytes"
pub mod SameMoves
pub mod MoveCallsSame
-- what all new keepers weigh, whatever words the old keepers cut again
pub mod MovedTray
-- what one lying old keeper can do
pub mod OneLiar
-- the check of a move by joining the old letters and the new ones
pub mod Checked
-- what the cutting promises of a good old letter
pub mod CutAgain
-- what the weighing promises of one move
pub mod Weighed
-- what one old keeper cuts
pub mod SubLetters
-- what a new keeper is handed
pub mod Handed
-- what a new keeper weighs
pub mod MovedLetters
-- what weighted sums of polynomials are
pub mod CarriedPolynomials
-- what the factors carry to zero
pub mod CarriedValue
-- what one old keeper's list does to the weighted sums
pub mod OneChanged
-- the tests on lists of old keepers
pub mod KeeperTests
