pub mod FirstSteps
pub mod Turns
pub mod ReadBack
