-- What reading leaves behind.
pub mod Parts
