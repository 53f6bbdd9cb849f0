pub mod Barring
