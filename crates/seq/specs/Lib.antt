-- What the other crates' definitions are written with.
pub mod Choice
pub mod Tabulate
