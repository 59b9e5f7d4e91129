-- The laws of rows that are asked in turn.
pub mod Rows
