-- Interface: all of Clauses (what a reader must believe). Codes serves the code: one unsigned number a literal.
pub mod Clauses
pub mod Codes
