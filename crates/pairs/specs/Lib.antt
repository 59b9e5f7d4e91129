-- What a reader must believe of the pairs. Interface: all of Rails and Pairs; Rising (the order of the pairs); Promise
-- (the functions); Example (circuit A). Table and Query serve the functions that are not public.
pub mod Rails
pub mod Pairs
pub mod Rising
pub mod Table
pub mod Promise
pub mod Query
pub mod Example
