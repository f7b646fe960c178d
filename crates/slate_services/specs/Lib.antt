pub mod Plain
pub mod Payments
pub mod Records
pub mod Jobs
pub mod Claims
pub mod Stores
pub mod Leaving
