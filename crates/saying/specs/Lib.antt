pub mod Sentences
pub mod Status
pub mod Table
