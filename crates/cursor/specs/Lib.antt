-- What the refusals and the steps of this crate say.
pub mod Said
