pub mod Joined
pub mod NumberLaws
pub mod PickedLaws
pub mod Report
pub mod Sets
