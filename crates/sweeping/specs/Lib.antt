-- What the sweep's code promises.
pub mod Swept
