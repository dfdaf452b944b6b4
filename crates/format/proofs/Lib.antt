pub mod Counting
pub mod Filling
pub mod Judging
pub mod Laying
pub mod Lent
pub mod Writing
