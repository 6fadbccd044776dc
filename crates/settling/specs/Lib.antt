-- What the search promises, and what its parts promise each other.
pub mod Settled
