pub mod Sets
pub mod Sums
pub mod Thinning
pub mod Made
pub mod Firsts
pub mod Paths
pub mod Bests
