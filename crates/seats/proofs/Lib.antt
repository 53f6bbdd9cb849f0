pub mod Bests
pub mod Rows
pub mod Lefts
pub mod Fronts
pub mod Sittings
