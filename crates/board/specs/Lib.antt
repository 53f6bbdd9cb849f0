pub mod Marks
pub mod Refusals
pub mod Decks
pub mod Calls
pub mod Marked
