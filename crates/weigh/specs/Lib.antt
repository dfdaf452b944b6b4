pub mod Carried
pub mod CarriedRows
pub mod PlainRows
pub mod PlainSum
pub mod Weigh
