pub mod Table
pub mod Times
pub mod Bearers
pub mod Values
pub mod Proper
pub mod Index
pub mod Layout
pub mod Calls
