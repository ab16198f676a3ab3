pub mod Keys
pub mod Merged
pub mod Kept
pub mod Sizes
pub mod Calls
pub mod Cases
