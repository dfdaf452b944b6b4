pub mod Keepers
pub mod Subs
pub mod Lent
pub mod Judging
pub mod SubLaws
pub mod FirstLaws
pub mod JudgingLaws
