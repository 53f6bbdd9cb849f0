pub mod Chain
pub mod Outcomes
pub mod Wishes
