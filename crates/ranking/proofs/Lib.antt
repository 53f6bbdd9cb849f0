pub mod Keying
pub mod Lineups
pub mod Orderings
pub mod Risings
pub mod Mapped
