pub mod Refusals
pub mod Rows
pub mod Firsts
pub mod Fillings
pub mod Lent
pub mod Owned
pub mod Book
