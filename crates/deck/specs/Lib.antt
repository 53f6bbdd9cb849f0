pub mod Alike
pub mod Facts
pub mod Lawful
pub mod Contents
pub mod Binding
