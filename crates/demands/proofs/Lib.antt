-- demand 1: "a refused call changes no byte lent to it"
pub mod Unchanged
-- "joining accepts exactly when polynomials .. match at least max(m-f, t+f+1)"
pub mod Accepted
-- demand 2: "The join never gives a wrong secret. It gives the right one if .."
pub mod Recovery
-- "a cut tray must be accepted"
pub mod Untouched
-- "Letters of our boot and mirror keys were mixed up": nothing wrong is joined
pub mod MixedKeys
-- "It counts the sets up to and including the first": which that is, and how many there are
pub mod Hunted
-- the pick's number is that of the join of what it names
pub mod Named
-- "a sound, older stamp went unread": it is read
pub mod OlderWrite
-- what a cut of words gives each keeper
pub mod Rows
-- demand 3: t keepers learn nothing of the secret, nor of a list of words
pub mod Secrecy
-- "Any two results allowed by one promise are proved the same"
pub mod Same
pub mod AnswersSame
pub mod CallsSame
-- nothing that differs is left out of a comparison
pub mod Differences
-- C1..C12
pub mod WorkedNumbers
-- where the numbers stand in a letter
pub mod LayoutLaws
-- the demands speak of one cut: what a cut leaves that answers 0
pub mod CutAnswers
-- what these stand on
pub mod Altered
pub mod CutPolynomials
pub mod HeldTray
pub mod JoinAnswers
pub mod SameShares
