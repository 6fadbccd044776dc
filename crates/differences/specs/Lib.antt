-- What a table of differences says, what the calls on it promise, and what a chain of differences is: read Table.antt first.
pub mod Table
pub mod Distances
pub mod Rows
pub mod Chains
