pub mod Thresholds
pub mod Shortlists
pub mod Keeping
