pub mod Scan
pub mod SlotLaws
pub mod Tray
