-- Section 9 of the rules: demand 3 as one statement about whole lists. And what a run of k steps is.
pub mod Demand3
pub mod Stepwise
