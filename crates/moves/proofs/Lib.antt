-- Lemmas that the proofs of the moves hand to `search`, and the laws of the file after a step, which other crates cite.
mod Digits
pub mod Rules
pub mod Placed
pub mod Laws
pub mod Sentences
