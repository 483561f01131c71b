-- Section 7 of the rules, and rule 9.2: byte maps.
pub mod ByteMap
pub mod Build
pub mod Accepted
pub mod Inner
pub mod Examples
