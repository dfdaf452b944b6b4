pub mod Tests
pub mod Fronts
