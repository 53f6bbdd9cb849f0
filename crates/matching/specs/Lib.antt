pub mod Sets
pub mod Choices
pub mod Market
pub mod Facts
