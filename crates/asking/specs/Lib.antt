-- The question about an end, and what the code that writes it promises.
pub mod Asked
