pub mod Refusals
pub mod Order
pub mod Contents
pub mod Rules
