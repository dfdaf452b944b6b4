pub mod Compare
pub mod CompareLaws
pub mod Parts
