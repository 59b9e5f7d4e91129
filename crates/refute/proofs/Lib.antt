-- The laws, one file a step.
pub mod Sound
pub mod Unique
pub mod Marks
pub mod Agree
pub mod Reading
pub mod Scanning
pub mod Passing
pub mod Walking
pub mod Judging
pub mod Cutting
pub mod Examples
pub mod Edges
