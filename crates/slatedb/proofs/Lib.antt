pub mod OpenIds
pub mod FirstRead
pub mod FirstTable
pub mod FirstCalls
pub mod Turning
pub mod OneWrite
pub mod ReadBack
mod Undone
