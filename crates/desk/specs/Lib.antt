pub mod Desk
pub mod StoreLaws
pub mod GoodHere
pub mod Calls
