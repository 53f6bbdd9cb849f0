pub mod Caps
pub mod Rule
pub mod Climb
pub mod Walk
pub mod Laws
pub mod Sums
pub mod Capped
pub mod Tree
