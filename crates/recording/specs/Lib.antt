pub mod Recording
pub mod Calls
pub mod Lines
pub mod Theorems
pub mod Change
