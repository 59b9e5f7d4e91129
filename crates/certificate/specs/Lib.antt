-- What a reader must believe of a certificate. Interface: Demand (demand 3), Largest (what an accepted delay is),
-- Promise (judge); Cases, Edges and Table (the proved table).
pub mod Demand
pub mod Largest
pub mod Promise
pub mod Cases
pub mod Edges
pub mod Table
