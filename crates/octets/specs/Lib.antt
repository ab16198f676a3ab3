pub mod Counts
pub mod Numbers
pub mod Header
pub mod Places
pub mod Calls
pub mod Puts
