pub mod Climbs
pub mod Makings
pub mod Ruled
pub mod Walks
pub mod Answering
