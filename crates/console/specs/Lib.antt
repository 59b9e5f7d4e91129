-- Interface: Reading (numbers out of the bytes that came), Writing (what is printed).
pub mod Reading
pub mod Writing
