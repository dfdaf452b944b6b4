pub mod Fraction
pub mod Laws
pub mod Table
