pub mod Responding
pub mod ShownLaws
