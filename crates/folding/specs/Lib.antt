-- Folding over nodes, with one end cut or none.
pub mod Folded
pub mod Parts
