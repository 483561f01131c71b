-- What a run's loop keeps, and the laws of splits, of what is left of a list, and of runs, which other crates cite.
mod Going
pub mod Splits
pub mod Rests
pub mod Laws
pub mod Order
