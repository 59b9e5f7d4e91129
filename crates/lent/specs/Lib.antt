-- Interface: two_bytes, four_bytes.
pub mod Bytes
pub mod Copied
