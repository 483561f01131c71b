-- Lemmas on the instruction table, and its rules, which other crates cite.
pub mod Bits
pub mod Sizes
pub mod Reasons
pub mod Passing
pub mod Rule
pub mod Columns
