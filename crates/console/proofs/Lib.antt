-- The laws: Numbers (a list of the numbers of words), Written (words behind words, and the text of a value).
pub mod Numbers
pub mod Written
