pub mod JoinGivesLaws
pub mod Passing
pub mod Pick
pub mod PickedLaws
pub mod Ranks
pub mod RefusalLaws
