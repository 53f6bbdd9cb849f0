pub mod Keys
pub mod Rank
pub mod Rows
pub mod Total
