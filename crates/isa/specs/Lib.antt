-- Sections 1 and 3 of the rules, and the numbers of the answers (rule 5.1).
pub mod Kinds
pub mod Features
pub mod FeatureSets
pub mod Refusal
pub mod Operands
pub mod Table
pub mod Facts
