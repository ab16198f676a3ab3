pub mod Passing
pub mod Examples
