-- Section 2 of the rules, and decoding in section 5.
pub mod Prefix
pub mod Bits
pub mod Modrm
pub mod Reserved
pub mod Fields
pub mod Instruction
pub mod Decode
pub mod Cases
pub mod Fits
pub mod Steps
