-- Lemmas that the proofs of the step hand to `search` or cite.
mod Elements
pub mod Rules
pub mod Laws
pub mod Cases
