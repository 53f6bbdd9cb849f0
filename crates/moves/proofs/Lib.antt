pub mod Bags
pub mod Chains
