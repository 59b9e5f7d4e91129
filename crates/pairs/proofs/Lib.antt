-- The laws of the pairs, one file a step: what the list of the pairs is (Numbered to Closed), and then what the
-- functions need (Flat on).
pub mod Numbered
pub mod Least
pub mod Rails
pub mod Rising
pub mod Unique
pub mod Closed
pub mod Flat
pub mod Search
pub mod Bits
pub mod Marking
pub mod Asking
pub mod Linking
pub mod Walking
pub mod Spanning
pub mod Ending
pub mod Scanning
pub mod Moving
pub mod Topping
pub mod Step
pub mod Filling
pub mod Finding
pub mod Whole
pub mod Spreading
