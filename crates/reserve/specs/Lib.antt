pub mod Reserves
pub mod Cutting
pub mod Reserve
