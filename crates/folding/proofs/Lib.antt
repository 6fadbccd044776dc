-- Laws of folding over nodes, and of the cut for the crates above.
pub mod Cuts
pub mod Puts
pub mod Walk
