pub mod Marking
pub mod Through
pub mod Copies
