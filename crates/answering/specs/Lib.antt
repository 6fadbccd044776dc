-- What the answer to a question promises.
pub mod Answered
