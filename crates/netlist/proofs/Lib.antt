-- The laws, one file a topic. The kinds; the netlist of a file and what makes it valid; then the check of a file: the
-- search for a first wrong entry, the sums of pin counts, the search over the pins, these searches as rows, the table's
-- rows; and what an accepted file gives: a call on it, and a gate that is read of it.
pub mod PinCounts
pub mod Ranges
pub mod Pins
pub mod Entries
pub mod Valid
pub mod FirstWrong
pub mod Sums
pub mod PinSearch
pub mod Tables
pub mod Rows
pub mod TableOrder
pub mod AcceptedFile
pub mod Slopes
pub mod Calls
pub mod Accepting
pub mod GateRead
