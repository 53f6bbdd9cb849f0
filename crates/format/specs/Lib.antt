pub mod Layout
pub mod Refusals
pub mod Questions
pub mod Reader
