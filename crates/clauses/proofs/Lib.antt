-- The laws, one file a topic.
pub mod Flat
pub mod Written
