-- The laws, one file a step of the argument: Says (what the clauses say), Facts (what is known of a circuit's nodes,
-- rails and pairs), Complete and Sound (demand 3 from these facts, in both directions), Demand (demand 3 of a valid
-- circuit), Variables (which variables occur), Numbers (the formula as numbers), LargestIs (a circuit has one largest
-- settling time), Accepted (an accepted delay is it), Passing (what it says that a row passes), Granted (the promise
-- of judge implies the theorem), Steps (how the checks of a call make its answer), Left (demand 3 of what build
-- leaves), Unique (one judgement), Examples and Edges (the table's certificate calls), Table (the one statement over
-- all rows).
pub mod Says
pub mod Facts
pub mod Complete
pub mod Sound
pub mod Demand
pub mod Variables
pub mod Numbers
pub mod LargestIs
pub mod Accepted
pub mod Passing
pub mod Granted
pub mod Steps
pub mod Left
pub mod Unique
pub mod Examples
pub mod Edges
pub mod Table
