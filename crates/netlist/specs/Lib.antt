-- What a reader must believe of a netlist: sections N and K of the rules, and rows 1 to 7 of their table. Interface:
-- Netlist (the circuit as data), Kinds (the table of kinds), File (where the bytes lie), Open (the refusals 1 to 7),
-- Holds (what an accepted file gives), Accepts (what every call asks first), Example (circuit A), Edges (files at the
-- bounds).
pub mod Netlist
pub mod Kinds
pub mod File
pub mod Open
pub mod Holds
pub mod Accepts
pub mod Example
pub mod Edges
