-- Section 6 of the rules: lists, and runs.
pub mod Split
pub mod Run
pub mod Examples
