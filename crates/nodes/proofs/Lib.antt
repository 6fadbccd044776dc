-- Laws of the tree in memory, for the crates above.
pub mod Memory
pub mod Laws
