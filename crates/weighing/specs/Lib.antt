pub mod Lent
pub mod Weighing
pub mod WeighedRows
pub mod WeighingLaws
