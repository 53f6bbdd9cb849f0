pub mod Moves
pub mod Bags
