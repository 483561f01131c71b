-- Section 10 of the rules (request 4): the address of a memory operand.
pub mod Displacement
pub mod Operand
pub mod Address
pub mod Examples
