-- The lengths that fit, and the laws of reasons and of answer 1.
pub mod Fits
pub mod Reasons
pub mod Arguments
