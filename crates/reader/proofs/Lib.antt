-- The laws, one file a step.
pub mod Lengths
pub mod Agree
pub mod Unique
