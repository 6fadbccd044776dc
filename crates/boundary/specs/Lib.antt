-- What the calls of the C boundary return and write.
pub mod Reports
