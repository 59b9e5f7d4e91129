-- Interface: all of Reading (what a reader must believe); Edges (the reader where no clause is left).
pub mod Reading
pub mod Edges
