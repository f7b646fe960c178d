pub mod Shown
pub mod Typed
