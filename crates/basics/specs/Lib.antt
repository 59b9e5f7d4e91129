-- The shared definitions. Interface: all of Lists.
pub mod Lists
