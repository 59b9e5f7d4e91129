-- The laws of settling, one file a step: Cubes (each kind as controlling cubes), Argument (the gate argument, once),
-- Grow (a list that grows by an entry a gate), Nodes (the fixpoint equations of values, times and tops, and their
-- bounds); then for the code: Pins (one gate), Slopes (one gate by the delays for its final value), Gates (gate after
-- gate), Checks (19, 8 and 9), Whole (the whole call); and Unique (one answer and one content for each input) and
-- EqualLists (rise and fall alike give the single form's times).
pub mod Cubes
pub mod Argument
pub mod Grow
pub mod Nodes
pub mod Pins
pub mod Slopes
pub mod Gates
pub mod Checks
pub mod Whole
pub mod Unique
pub mod EqualLists
