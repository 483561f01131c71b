-- Section 4 of the rules, "Moves", and rule 7.3.
pub mod Pick
pub mod Origin
pub mod Moved
pub mod Mappable
pub mod Examples
