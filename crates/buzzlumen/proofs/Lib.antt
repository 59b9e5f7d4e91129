-- The laws.
pub mod Small
pub mod Largest
pub mod Unique
