pub mod Logs
pub mod Tray
pub mod Meaning
