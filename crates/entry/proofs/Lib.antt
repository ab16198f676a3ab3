pub mod Copying
pub mod Wrong
