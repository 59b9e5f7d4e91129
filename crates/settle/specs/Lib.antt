-- What a reader must believe of settling. Interface: Settling (section S of the rules), Cubes (controlling cubes, as
-- the formula reads them), Promise (evaluate), Cases and Edges (rows of the proved table). Steps serves the functions'
-- own contracts.
pub mod Settling
pub mod Cubes
pub mod Promise
pub mod Steps
pub mod Cases
pub mod Edges
