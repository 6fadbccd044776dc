-- Laws of writing.
pub mod Room
pub mod Own
pub mod Walk
pub mod Total
