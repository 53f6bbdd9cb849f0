pub mod Rows
pub mod Fillings
pub mod States
pub mod Dues
pub mod Turns
pub mod Unique
pub mod Verdicts
