pub mod Scanning
pub mod UsableLaws
