pub mod Text
pub mod Tokens
pub mod Found
pub mod Weighing
pub mod Runs
pub mod Links
pub mod Leaves
pub mod Index
