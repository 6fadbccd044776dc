-- What writing a condition's nodes leaves in the output.
pub mod Written
