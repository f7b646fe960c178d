pub mod Own
pub mod Passes
pub mod Workers
pub mod Readers
pub mod Laws
