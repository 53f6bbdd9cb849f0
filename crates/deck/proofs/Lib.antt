pub mod Extensions
pub mod Agreements
pub mod Pushes
pub mod Sound
pub mod Deals
