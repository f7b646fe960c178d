pub mod Going
pub mod Slot
pub mod Behind
pub mod Scanning
