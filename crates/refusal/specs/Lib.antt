-- What a reader must believe of refusals. Interface: Table (a refusal's number and place), Rows (rows in turn), Edges
-- (each refusal with what a caller reads).
pub mod Table
pub mod Rows
pub mod Edges
