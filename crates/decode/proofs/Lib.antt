-- The laws of decoding, which other crates cite.
pub mod Laws
pub mod Prefixes
pub mod Reasons
pub mod Ranges
pub mod Listed
