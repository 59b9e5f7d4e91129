-- The laws: a slice that is filled from its start.
pub mod Filling
