pub mod Modulo
