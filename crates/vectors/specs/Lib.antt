-- The vectors' data and digests, as docs/VECTORS.md has them.
pub mod Number
pub mod Pools
pub mod Digest
pub mod Calls
