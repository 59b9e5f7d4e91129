-- Interface: Propagation (what a reader must believe), Rows, Promise, Parts, Examples and Edges (rows of the proved
-- table). Passes computes what Propagation says; Reading serves the contracts inside this crate.
pub mod Propagation
pub mod Rows
pub mod Promise
pub mod Passes
pub mod Parts
pub mod Reading
pub mod Examples
pub mod Edges
