-- The demands, stated over the definitions of the crates below.
pub mod Demands
pub mod Useless
pub mod Hex
pub mod Worked
pub mod Mixed
