pub mod Counting
pub mod Down
pub mod Gathering
pub mod LargeGroups
pub mod Next
pub mod Said
pub mod NumberLaws
