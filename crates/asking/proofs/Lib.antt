-- The question means what document 01 asks; and the laws that the proofs of the code use.
pub mod Means
pub mod EndsCounted
pub mod Parts
pub mod Turned
pub mod Negating
pub mod Onto
pub mod Seeking
pub mod Gathering
