pub mod BinomialsLaws
pub mod SetsLaws
pub mod Dictionary
pub mod Lowest
pub mod Left
