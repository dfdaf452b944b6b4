pub mod DecimalLaws
pub mod LineLaws
pub mod Lines
pub mod Sample
pub mod Text
pub mod Written
