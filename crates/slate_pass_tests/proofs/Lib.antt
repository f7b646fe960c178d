pub mod Scanning
pub mod Gets
