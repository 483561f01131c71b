-- Lemmas that the other crates' proofs cite.
pub mod Cases
pub mod Choice
pub mod Tabulate
pub mod Parts
pub mod Storing
