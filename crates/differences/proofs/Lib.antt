-- Laws of closed tables and of chains, for the crates above.
pub mod Closed
pub mod Lowered
pub mod Bounds
pub mod Parts
pub mod Starts
pub mod Rows
pub mod Shown
pub mod Unique
pub mod Chains
pub mod Sets
