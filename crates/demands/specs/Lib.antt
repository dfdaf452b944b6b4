-- "joining accepts exactly when polynomials .. match at least max(m-f, t+f+1)"
pub mod Accepted
-- demand 2: "The join never gives a wrong secret. It gives the right one if .."
pub mod Recovery
-- letters of other keys, mixed up
pub mod MixedKeys
-- an older write, and that it is read
pub mod OlderWrite
-- demand 3: any t keepers, and what they learn nothing from
pub mod Secrecy
-- C1..C12
pub mod WorkedNumbers
-- where the numbers stand in a letter
pub mod Layout
-- what these stand on
pub mod Altered
pub mod CutPolynomials
pub mod HeldTray
pub mod SameShares
