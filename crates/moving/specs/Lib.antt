pub mod Move
pub mod Lent
pub mod MoveLaws
pub mod Cutting
pub mod CuttingLaws
