-- a move: what is handed, and what is weighed
pub mod Moved
-- what the old keepers hold
pub mod TheMove
-- the new tray where one old keeper draws other words
pub mod OneDraws
-- what one lying old keeper can do
pub mod OneLiar
-- the same old keepers, in two lists
pub mod Weighed
-- one old keeper's list in the place of another
pub mod OneChanged
