-- Proofs of the demands, of the useless versions' impossibility, of the worked trees and of 000's Lemma 1 being false.
mod Finding
pub mod Demands
pub mod Useless
mod Bounds
mod Rows
pub mod Worked
pub mod Mixed
