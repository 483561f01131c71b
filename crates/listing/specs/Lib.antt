-- Section 8 of the rules: the listing.
pub mod Text
pub mod Listing
pub mod Pieces
pub mod Inner
pub mod Examples
