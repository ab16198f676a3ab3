pub mod Bodies
pub mod Records
pub mod Turns
pub mod Given
pub mod IllFormed
