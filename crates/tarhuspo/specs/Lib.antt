-- What the C interface's structs hold.
pub mod Decoded
pub mod Stepped
pub mod Addressed
pub mod Lists
pub mod Cases
