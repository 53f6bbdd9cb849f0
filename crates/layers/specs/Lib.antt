pub mod Piles
