-- What a report says of the answer, and that no choice is left.
pub mod Once
