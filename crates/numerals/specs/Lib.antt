pub mod Numeral
pub mod NumeralLaws
pub mod Order
pub mod OrderLaws
pub mod Sample
pub mod Several
pub mod SeveralLaws
