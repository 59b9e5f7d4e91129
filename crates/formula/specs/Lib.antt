-- What a reader must believe of the formula: section F of the rules. Interface: Formula (the clauses), Promise (build),
-- Example and Cases (circuit A), Edges (each kind, each order of checks), Apart (the rise-fall form). The pairs are
-- those of crate pairs. Emission and Late serve the code.
pub mod Formula
pub mod Promise
pub mod Emission
pub mod Late
pub mod Example
pub mod Cases
pub mod Edges
pub mod Apart
