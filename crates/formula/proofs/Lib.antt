-- The laws, one file a step: Emission (runs of numbers, one after the other), Gates (what is put for one gate), Late
-- (lateness and its code), Asking (what was read of drivers and outputs, and what they add), PairClauses (what is put
-- for one pair), Numbers (what was put is the list's numbers), Table (the lent table is what the code leans on), Whole
-- (what is put is the formula), Rows (the rows of the promise), Answers (what an answer says of them), Unique (one
-- answer and one content for each input), AtZero (all inputs at 0).
pub mod Emission
pub mod Gates
pub mod Late
pub mod Asking
pub mod PairClauses
pub mod Numbers
pub mod Table
pub mod Whole
pub mod Rows
pub mod Answers
pub mod Unique
pub mod AtZero
