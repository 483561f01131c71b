-- Demand 3 and a run's steps, proved from the layers' own laws.
mod Whole
pub mod Demand3
pub mod Stepwise
pub mod Examples
