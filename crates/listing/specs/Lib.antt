pub mod Print
pub mod Lines
pub mod Outcomes
