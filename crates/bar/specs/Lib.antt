pub mod Bars
pub mod Bar
