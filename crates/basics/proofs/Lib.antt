-- The shared laws, one file a topic.
pub mod Truth
pub mod Lists
pub mod Order
pub mod Table
