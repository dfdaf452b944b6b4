pub mod Comparing
pub mod Looking
pub mod Putting
pub mod Turns
pub mod CompareLaws
pub mod PartLaws
