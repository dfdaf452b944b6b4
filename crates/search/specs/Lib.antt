pub mod Base
pub mod Carried
pub mod Finds
pub mod Search
pub mod SearchLaws
pub mod SetOf
pub mod TriedLaws
