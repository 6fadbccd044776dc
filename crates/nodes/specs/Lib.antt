-- The tree in memory: its nodes, then a tree as nodes.
pub mod Memory
pub mod Laid
