-- The rules that the proofs hand to `search`, and the laws of addresses.
mod Sums
pub mod Laws
pub mod Bytes
