-- Lemmas that the proofs of byte maps hand to `search` or cite.
mod Rules
pub mod Laws
pub mod Acceptance
pub mod Lists
pub mod Refusals
mod Fine
pub mod Reading
pub mod Scanning
