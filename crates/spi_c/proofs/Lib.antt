pub mod Packing
pub mod Told
pub mod Calls
pub mod Wrong
