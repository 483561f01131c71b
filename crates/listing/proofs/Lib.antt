-- The listing's laws, and lemmas that its proofs cite.
pub mod Texts
mod Numbers
mod Headings
pub mod Fits
mod Lines
pub mod Bounds
mod Writing
mod Whole
pub mod Laws
pub mod Pieces
