pub mod Steps
pub mod Theorems
