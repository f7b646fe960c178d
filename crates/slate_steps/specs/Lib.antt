pub mod Steps
pub mod Reads
pub mod Attempts
pub mod Walks
